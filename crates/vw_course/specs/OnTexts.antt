-- A course over texts that are at hand in place of files, of whose text a summary is written.
use Rattle.std.specs.Prelude.{◌≡◌, ℕ, List, Result, Ok, Err}
use Rattle.vw_outside.specs.Writes.{SeenSink, WritesOut}
use Rattle.vw_outside.specs.declared.unwritten.Unwritten.{Unwritten}
use Rattle.vw_course.specs.declared.unfinished.Unfinished.TheVariants.{ReadFault, WriteFault, NoMemory, Refused}
use Rattle.vw_course.specs.Vocabulary.{Vocabulary}
use Rattle.vw_course.specs.Outside.{Work}
use Rattle.vw_course.specs.Course.{Course, works, refuses, reads, makes, once}
use Rattle.vw_course.specs.Follows.{Answer}
use Rattle.vw_course.specs.Stages.{answer_of}

-- the work of which a summary of the text is written in its place
abbrev pub summed : {Word : Type 0} → (List ℕ → List ℕ) → Work Word → Work Word
summed summary work = record work { text = summary work.text }

-- no file is read: each name has its text, and nothing comes between two readings
abbrev pub on_texts : {V : Vocabulary} → (List ℕ → List ℕ) → (List ℕ → List ℕ) → Course V → Course V
on_texts texts summary (works over work) = works once (summed summary work)
on_texts texts summary (refuses reason) = refuses reason
on_texts texts summary (reads file name next) = on_texts texts summary (next (texts name))
on_texts texts summary (makes A Good Bad Comes apart sure next) =
    makes A Good Bad Comes apart sure (λ x good. on_texts texts summary (next x good))

-- how a call ends whose course over the texts has ended so: the summary is written, the refusal is handed on, and all else
-- is want of memory, since the texts are held and what is written meanwhile stays in memory
abbrev pub EndsSummed : (V : Vocabulary) → List ℕ → SeenSink → SeenSink → Answer V → Answer V → Type 0
EndsSummed V text before after (Ok done) answer =
    (written : Result (Unit {0}) Unwritten) × WritesOut text before after written × (answer ≡ answer_of written)
EndsSummed V text before after (Err (Refused reason)) answer = (after ≡ before) × (answer ≡ Err (Refused reason))
EndsSummed V text before after (Err (ReadFault file)) answer = (after ≡ before) × (answer ≡ Err NoMemory)
EndsSummed V text before after (Err WriteFault) answer = (after ≡ before) × (answer ≡ Err NoMemory)
EndsSummed V text before after (Err NoMemory) answer = (after ≡ before) × (answer ≡ Err NoMemory)
