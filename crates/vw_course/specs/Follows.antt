-- How a call follows a course: for some texts that its files may have, and some good things, it comes to a place of the
-- course, and ends there.
use Rattle.std.specs.Prelude.{◌≡◌, ◌⊎◌, ℕ, List, Result, Ok, Err}
use Rattle.vw_outside.specs.Told.{Told, untold, absent, held, IsTextOf}
use Rattle.vw_outside.specs.Reads.{CountsFault}
use Rattle.vw_course.specs.declared.unfinished.Unfinished.{Unfinished}
use Rattle.vw_course.specs.declared.unfinished.Unfinished.TheVariants.{ReadFault, WriteFault, NoMemory, Refused}
use Rattle.vw_course.specs.Vocabulary.{Vocabulary}
use Rattle.vw_course.specs.Outside.{SeenOutside, Work, with_all, DidPart, FailedInPart, ShelfAlone}
use Rattle.vw_course.specs.Course.{Again, once, again, Course, works, refuses, reads, makes}

-- for some texts that its files may have, and some good things, the course comes to a place where this holds
abbrev pub May : {V : Vocabulary} → (List ℕ → Told) → (Course V → Type 0) → Course V → Type 0
May told P (works over work) = P (works over work)
May told P (refuses reason) = P (refuses reason)
May told P (reads file name next) =
    P (reads file name next) ⊎ ((text : List ℕ) × IsTextOf (told name) text × May told P (next text))
May told P (makes A Good Bad Comes apart sure next) =
    P (makes A Good Bad Comes apart sure next) ⊎ ((x : A) × (good : Good x) × May told P (next x good))

-- how a call ended: it was carried out, or not
abbrev pub Answer : Vocabulary → Type 0
Answer V = Result (Unit {0}) (Unfinished V.File V.Reason)

-- ---- the work that is done

-- the work that was done where a file is read again, of which this is told
abbrev pub IsDoneBy : {Word : Type 0} → (Work Word → Type 0) → Told → Work Word → Work Word → Type 0
IsDoneBy Allowed untold work did = Allowed did
IsDoneBy Allowed absent work did = did ≡ work
IsDoneBy Allowed (held text) work did = did ≡ work

-- the work that is done: all that the course says; where a file is read again of which nothing is told, what is allowed
abbrev pub DoesWork : {V : Vocabulary} → Again V → Work V.Word → (List ℕ → Told) → Work V.Word → Type 0
DoesWork once work told did = did ≡ work
DoesWork (again file name Broken Allowed) work told did = IsDoneBy Allowed (told name) work did

-- the file that is read again
abbrev pub IsAgain : {V : Vocabulary} → Again V → V.File → List ℕ → Type 0
IsAgain once other its = ⊥
IsAgain (again file name Broken Allowed) other its = (other ≡ file) × (its ≡ name)

-- the work is broken off for this reason: nothing is told of the file that is read again
abbrev pub BreaksOff : {V : Vocabulary} → Again V → (List ℕ → Told) → V.Reason → Type 0
BreaksOff once told reason = ⊥
BreaksOff (again file name Broken Allowed) told reason = (told name ≡ untold) × Broken reason

-- ---- how a call ends at a place

-- the work was done; or a part of it, and then a write or a read failed, memory ran out, or it was broken off
abbrev pub EndsWorking : {V : Vocabulary} → Again V → Work V.Word → SeenOutside V.Word → SeenOutside V.Word → Answer V → Type 0
EndsWorking {V = V} over work before after (Ok done) =
    (did : Work V.Word) × DoesWork over work before.shelf.told did × (after ≡ with_all did before)
EndsWorking {V = V} over work before after (Err WriteFault) =
    (did : Work V.Word) × DoesWork over work before.shelf.told did × (after.shelf ≡ before.shelf) × FailedInPart did before after
EndsWorking {V = V} over work before after (Err NoMemory) =
    (did : Work V.Word) × DoesWork over work before.shelf.told did × (after.shelf ≡ before.shelf) × DidPart did before after
EndsWorking {V = V} over work before after (Err (ReadFault file)) =
    (did : Work V.Word) × DoesWork over work before.shelf.told did
    × (name : List ℕ) × IsAgain over file name × CountsFault name before.shelf after.shelf × DidPart did before after
EndsWorking {V = V} over work before after (Err (Refused reason)) =
    (did : Work V.Word) × DoesWork over work before.shelf.told did
    × BreaksOff over before.shelf.told reason × (after.shelf ≡ before.shelf) × DidPart did before after

-- nothing changed, and the call was refused for such a reason, or memory ran out
abbrev pub EndsRefused : (V : Vocabulary) → (V.Reason → Type 0) → SeenOutside V.Word → SeenOutside V.Word → Answer V → Type 0
EndsRefused V Bad before after (Ok done) = ⊥
EndsRefused V Bad before after (Err WriteFault) = ⊥
EndsRefused V Bad before after (Err NoMemory) = after ≡ before
EndsRefused V Bad before after (Err (ReadFault file)) = ⊥
EndsRefused V Bad before after (Err (Refused reason)) = (after ≡ before) × Bad reason

-- a read of the file failed, or memory ran out; nothing but the shelf changed
abbrev pub EndsReading : (V : Vocabulary) → V.File → List ℕ → SeenOutside V.Word → SeenOutside V.Word → Answer V → Type 0
EndsReading V file name before after (Ok done) = ⊥
EndsReading V file name before after (Err WriteFault) = ⊥
EndsReading V file name before after (Err NoMemory) = after ≡ before
EndsReading V file name before after (Err (ReadFault other)) =
    (other ≡ file) × CountsFault name before.shelf after.shelf × ShelfAlone before after
EndsReading V file name before after (Err (Refused reason)) = ⊥

-- by the place
abbrev pub EndsHere : {V : Vocabulary} → SeenOutside V.Word → SeenOutside V.Word → Answer V → Course V → Type 0
EndsHere {V = V} before after answer (works over work) = EndsWorking over work before after answer
EndsHere {V = V} before after answer (refuses reason) = EndsRefused V (λ other. other ≡ reason) before after answer
EndsHere {V = V} before after answer (reads file name next) = EndsReading V file name before after answer
EndsHere {V = V} before after answer (makes A Good Bad Comes apart sure next) = EndsRefused V Bad before after answer

-- a call follows a course
abbrev pub Follows : {V : Vocabulary} → Course V → SeenOutside V.Word → SeenOutside V.Word → Answer V → Type 0
Follows course before after answer = May before.shelf.told (EndsHere before after answer) course
