-- How the stages of a command end, and how a call is reported.
use Rattle.std.specs.Prelude.{◌≡◌, ◌⊎◌, ℕ, List, Result, Ok, Err}
use Rattle.vw_outside.specs.declared.unwritten.Unwritten.{Unwritten}
use Rattle.vw_outside.specs.declared.unwritten.Unwritten.TheVariants as unwritten
use Rattle.vw_outside.specs.Told.{IsTextOf}
use Rattle.vw_outside.specs.Reads.{SeenShelf, CountsFault}
use Rattle.vw_outside.specs.Writes.{SeenSink}
use Rattle.vw_course.specs.declared.unfinished.Unfinished.{Unfinished}
use Rattle.vw_course.specs.declared.unfinished.Unfinished.TheVariants.{ReadFault, WriteFault, NoMemory, Refused}
use Rattle.vw_course.specs.Vocabulary.{Vocabulary}
use Rattle.vw_course.specs.Endings.{Ends}

-- a text that wasn't written whole leaves the command unfinished
abbrev pub unfinished_by : {F R : Type 0} → Unwritten → Unfinished F R
unfinished_by unwritten.WriteFault = WriteFault
unfinished_by unwritten.NoMemory = NoMemory

-- the answer of a command that wrote its text, or that stopped while it wrote
abbrev pub answer_of : {F R : Type 0} → Result (Unit {0}) Unwritten → Result (Unit {0}) (Unfinished F R)
answer_of (Ok done) = Ok done
answer_of (Err unwritten) = Err (unfinished_by unwritten)

-- status and message of a call that isn't carried out; want of memory for the line of a refusal comes in its place
abbrev pub EndsUnfinished : (V : Vocabulary) → Unfinished V.File V.Reason → SeenSink → SeenSink → ℕ → Type 0
EndsUnfinished V (Refused reason) before after status =
    Ends V (Err (Refused reason)) before after status ⊎ Ends V (Err NoMemory) before after status
EndsUnfinished V unfinished before after status = Ends V (Err unfinished) before after status

-- such a thing was made, or it is refused for a bad reason, or memory ran out
abbrev pub EndsJudging : {F A R : Type 0} → (A → Type 0) → (R → Type 0) → Result A (Unfinished F R) → Type 0
EndsJudging Good Bad (Ok x) = Good x
EndsJudging Good Bad (Err (ReadFault file)) = ⊥
EndsJudging Good Bad (Err WriteFault) = ⊥
EndsJudging Good Bad (Err NoMemory) = Unit {0}
EndsJudging Good Bad (Err (Refused reason)) = Bad reason

-- a file was read: of a text that the name may have, such a thing was made, or it is refused; or the outside stopped it
abbrev pub EndsStage : {F A R : Type 0} → F → List ℕ → (List ℕ → A → Type 0) → (List ℕ → R → Type 0)
    → SeenShelf → SeenShelf → Result A (Unfinished F R) → Type 0
EndsStage file name Made Bad before after (Ok x) =
    (after ≡ before) × (text : List ℕ) × IsTextOf (before.told name) text × Made text x
EndsStage file name Made Bad before after (Err (ReadFault other)) = (other ≡ file) × CountsFault name before after
EndsStage file name Made Bad before after (Err WriteFault) = ⊥
EndsStage file name Made Bad before after (Err NoMemory) = after ≡ before
EndsStage file name Made Bad before after (Err (Refused reason)) =
    (after ≡ before) × (text : List ℕ) × IsTextOf (before.told name) text × Bad text reason
