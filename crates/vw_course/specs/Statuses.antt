-- What each status of a call means, when it comes, what it leaves, and which message it has.
use Rattle.std.specs.Prelude.{◌≡◌, ◌<◌, ◌⊎◌, ℕ, List, [], ◌∷◌, ⊤}
use Rattle.vw_outside.specs.Told.{absent, held}
use Rattle.vw_outside.specs.Faults.{one_more}
use Rattle.vw_outside.specs.Reads.{CountsFault}
use Rattle.vw_outside.specs.Writes.{SeenSink, WrotePart, FailedAfterPart}
use Rattle.vw_course.specs.Vocabulary.{Vocabulary, IsNoStop}
use Rattle.vw_course.specs.Outside.{SeenOutside, Work, with_all, DidPart, FailedInPart, ShelfAlone}
use Rattle.vw_course.specs.Course.{Course}
use Rattle.vw_course.specs.Follows.{May}
use Rattle.vw_course.specs.Endings.{SeenCall, IsReported, write_line, memory_line}
use Rattle.vw_course.specs.Places.{IsOneOf, Files, WorksHere, BreaksHere, ReadsAgainHere, RefusesHere, ReadsHere, StandsAt, IsToWork, IsToRefuse, IsToMiss}

-- ---- how a call ends, of a course of which this is known

-- out and the links are as they were
abbrev pub NothingDone : {Word : Type 0} → SeenOutside Word → SeenOutside Word → Type 0
NothingDone before after = (after.out ≡ before.out) × (after.links ≡ before.links)

-- out and the links are as they were, or a part of such work was done
abbrev pub DidSome : {Word : Type 0} → (Work Word → Type 0) → SeenOutside Word → SeenOutside Word → Type 0
DidSome {Word = Word} What before after = NothingDone before after ⊎ ((did : Work Word) × What did × DidPart did before after)

-- 0: such work was done, and nothing else changed, err neither
pub record IsDone {Word : Type 0} (What : Work Word → Type 0) (call : SeenCall Word) : Type 0 where
  pub did : Work Word
  pub is : What did
  pub status : call.status ≡ 0
  pub leaves : call.after ≡ with_all did call.before
  pub silent : call.err_after ≡ call.err_before

-- 1 to 6: nothing changed but err, which has the line of such a reason
pub record IsRefusedFor (V : Vocabulary) (Why : V.Reason → Type 0) (call : SeenCall V.Word) : Type 0 where
  pub reason : V.Reason
  pub why : Why reason
  pub status : call.status ≡ V.status reason
  pub leaves : call.after ≡ call.before
  pub message : IsReported (V.line reason) call.err_before call.err_after

-- 7: a fault was counted at one of these files, out and the links have a part of such work at most, and err has the line
-- of this file
pub record IsReadStop (V : Vocabulary) (What : Work V.Word → Type 0) (files : Files V) (call : SeenCall V.Word) : Type 0 where
  pub file : V.File
  pub name : List ℕ
  pub one : IsOneOf files (file, name)
  pub status : call.status ≡ 7
  pub counted : CountsFault name call.before.shelf call.after.shelf
  pub part : DidSome What call.before call.after
  pub message : IsReported (V.read_line file) call.err_before call.err_after

-- 8: a part of such work was done, a fault was counted at out, the shelf is as it was, and err has the line of a write
-- fault
pub record IsWriteStop {Word : Type 0} (What : Work Word → Type 0) (call : SeenCall Word) : Type 0 where
  pub did : Work Word
  pub is : What did
  pub status : call.status ≡ 8
  pub shelf : call.after.shelf ≡ call.before.shelf
  pub part : FailedInPart did call.before call.after
  pub message : IsReported write_line call.err_before call.err_after

-- 9: out and the links have a part of such work at most, the shelf is as it was, and err has the line of a want of memory
pub record IsMemoryStop {Word : Type 0} (What : Work Word → Type 0) (call : SeenCall Word) : Type 0 where
  pub status : call.status ≡ 9
  pub shelf : call.after.shelf ≡ call.before.shelf
  pub part : DidSome What call.before call.after
  pub message : IsReported memory_line call.err_before call.err_after

-- no work
abbrev pub NoWork : {Word : Type 0} → Work Word → Type 0
NoWork did = ⊥

-- a read of one of these files failed (7) or memory ran out (9), and out and the links are as they were
abbrev pub IsStopped : (V : Vocabulary) → Files V → SeenCall V.Word → Type 0
IsStopped V files call = IsReadStop V NoWork files call ⊎ IsMemoryStop NoWork call

-- such work was done (0); or a read of one of these files failed (7), a write failed (8) or memory ran out (9), and out
-- and the links have a part of it at most
abbrev pub IsCarriedOut : (V : Vocabulary) → (Work V.Word → Type 0) → Files V → SeenCall V.Word → Type 0
IsCarriedOut V What files call =
    IsDone What call ⊎ (IsReadStop V What files call ⊎ (IsWriteStop What call ⊎ IsMemoryStop What call))

-- ---- every call of a course

-- 1 to 6: the course refuses for a reason with this status, and nothing changed but err; or it broke its work off for
-- it, of which a part was done. Err has the line of this reason
pub record IsRefused {V : Vocabulary} (course : Course V) (call : SeenCall V.Word) : Type 0 where
  pub reason : V.Reason
  pub status : call.status ≡ V.status reason
  pub cause : let told = call.before.shelf.told in
      (May told (RefusesHere reason) course × (call.after ≡ call.before))
      ⊎ ((did : Work V.Word) × May told (BreaksHere told reason did) course
      × (call.after.shelf ≡ call.before.shelf) × DidPart did call.before call.after)
  pub message : IsReported (V.line reason) call.err_before call.err_after

-- 7: a fault was counted at a file that the course reads, and nothing else changed but err; or at one that it reads
-- again, when a part of its work was done. Err has the line of this file
pub record IsReadFault {V : Vocabulary} (course : Course V) (call : SeenCall V.Word) : Type 0 where
  pub file : V.File
  pub name : List ℕ
  pub counted : CountsFault name call.before.shelf call.after.shelf
  pub cause : let told = call.before.shelf.told in
      (May told (ReadsHere file name) course × ShelfAlone call.before call.after)
      ⊎ ((did : Work V.Word) × May told (ReadsAgainHere told file name did) course × DidPart did call.before call.after)
  pub message : IsReported (V.read_line file) call.err_before call.err_after

-- work that the course may do
abbrev pub MayDo : {V : Vocabulary} → Course V → SeenCall V.Word → Work V.Word → Type 0
MayDo course call did = May call.before.shelf.told (WorksHere call.before.shelf.told did) course

-- the table of statuses
pub record Statuses {V : Vocabulary} (course : Course V) (call : SeenCall V.Word) : Type 0 where
  pub done : call.status ≡ 0 → IsDone (MayDo course call) call
  pub refused : 0 < call.status → IsNoStop call.status → IsRefused course call
  pub read_fault : call.status ≡ 7 → IsReadFault course call
  pub write_fault : call.status ≡ 8 → IsWriteStop (MayDo course call) call
  pub want_of_memory : call.status ≡ 9 → IsMemoryStop (MayDo course call) call
  pub known : call.status < 12
  -- what is accepted is carried out, unless the outside stops the call; then out is as it was, or has a part of what
  -- status 0 would have written
  pub accepted : (files : Files V) → (let told = call.before.shelf.told in StandsAt told files (IsToWork told files (λ did. Unit {0})) course)
      → IsCarriedOut V (MayDo course call) files call
  -- what is to be refused is refused, unless a read fails or memory runs out
  pub rejected : (files : Files V) → (let told = call.before.shelf.told in StandsAt told files (IsToRefuse (λ reason. Unit {0})) course)
      → IsRefusedFor V (λ reason. May call.before.shelf.told (RefusesHere reason) course) call ⊎ IsStopped V files call
  -- a file that is absent is a read fault, unless memory runs out
  pub absent_file : (files : Files V) → (let told = call.before.shelf.told in StandsAt told files (IsToMiss told files) course)
      → IsStopped V files call

-- ---- what tables of commands say of files

-- the text of a name is held
abbrev pub Holds : {Word : Type 0} → SeenCall Word → List ℕ → List ℕ → Type 0
Holds call name text = call.before.shelf.told name ≡ held text

-- the file of a name is told to be absent
abbrev pub IsAbsent : {Word : Type 0} → SeenCall Word → List ℕ → Type 0
IsAbsent call name = call.before.shelf.told name ≡ absent

-- out and the links are as they were, and the status is 7, 9 or one of these
abbrev pub IsUnworked : {Word : Type 0} → List ℕ → SeenCall Word → Type 0
IsUnworked numbers call = NothingDone call.before call.after × IsOneOf (7 ∷ 9 ∷ numbers) call.status

-- the status is 0, 7, 8 or 9, or one of these
abbrev pub HasStatus : {Word : Type 0} → List ℕ → SeenCall Word → Type 0
HasStatus numbers call = IsOneOf (0 ∷ 7 ∷ 8 ∷ 9 ∷ numbers) call.status

-- a count is as a fault would leave it
abbrev pub IsOneMore : ℕ → ℕ → Type 0
IsOneMore before now = now ≡ one_more before

-- no count of these files is as a fault would leave it
abbrev pub NoFaultAt : (V : Vocabulary) → Files V → SeenCall V.Word → Type 0
NoFaultAt V [] call = ⊤
NoFaultAt V ((file, name) ∷ files) call =
    (IsOneMore (call.before.shelf.faults name) (call.after.shelf.faults name) → ⊥) × NoFaultAt V files call

-- where no count of these files or of out rose, the call was carried out, or memory ran out
abbrev pub CompletesAt : (V : Vocabulary) → Files V → SeenCall V.Word → Type 0
CompletesAt V files call =
    NoFaultAt V files call → (IsOneMore call.before.out.faults call.after.out.faults → ⊥)
    → (call.status ≡ 0) ⊎ (call.status ≡ 9)

-- so much of a text was written: a part of it, and a write may have failed behind it
abbrev pub LeavesPart : List ℕ → SeenSink → SeenSink → Type 0
LeavesPart text before after = WrotePart text before after ⊎ FailedAfterPart text before after

-- ---- what tables of commands have in common

-- of a file of this name whose text may be bad, with this status, and that comes next where other texts are such. The files
-- are all up to it, and those before it refuse with these statuses
pub record FileStatuses (V : Vocabulary) (files : Files V) (name earlier : List ℕ) (number : ℕ) (Bad : List ℕ → V.Reason → Type 0) (IsNoText : List ℕ → Type 0) (IsNext : SeenCall V.Word → Type 0) (call : SeenCall V.Word) : Type 0 where
  -- the call is refused with this status exactly where its text is bad
  pub bad : (text : List ℕ) → Holds call name text → call.status ≡ number → IsRefusedFor V (Bad text) call
  pub bad_comes : (text : List ℕ) → Holds call name text → IsNext call → IsNoText text → IsRefusedFor V (Bad text) call ⊎ IsStopped V files call
  -- a file that is told to be absent is a read fault, unless memory runs out, or an earlier file is refused before
  pub absent : IsAbsent call name → IsUnworked earlier call
  pub absent_next : IsAbsent call name → IsNext call → IsStopped V files call

-- of the end of a command with these files. It does such work of held texts, and whatever they are, any such work at most;
-- and it is accepted where something is ready, of which it then does the work
pub record EndStatuses (V : Vocabulary) (files : Files V) {T X : Type 0} (Hold : SeenCall V.Word → T → Type 0) (Does : T → Work V.Word → Type 0) (Any : Work V.Word → Type 0)
    (IsReady : SeenCall V.Word → X → Type 0) (DoesOf : X → Work V.Word → Type 0) (call : SeenCall V.Word) : Type 0 where
  -- 0: the work is done, and nothing else changed
  pub done : (texts : T) → Hold call texts → call.status ≡ 0 → IsDone (Does texts) call
  -- 7: a fault was counted at one of the files, over every shelf; a part of any such work was done at most, and where the texts
  -- are held, of their own
  pub read_fault : call.status ≡ 7 → IsReadStop V Any files call
  pub read_fault_held : (texts : T) → Hold call texts → call.status ≡ 7 → IsReadStop V (Does texts) files call
  -- 8: a fault was counted at out, which has a part of the text
  pub write_fault : (texts : T) → Hold call texts → call.status ≡ 8 → IsWriteStop (Does texts) call
  -- 9: out has a part of the text at most
  pub want_of_memory : (texts : T) → Hold call texts → call.status ≡ 9 → IsMemoryStop (Does texts) call
  -- what is ready is carried out, unless the outside stops the call; and where no count rose, unless memory runs out
  pub accepted : (x : X) → IsReady call x → IsCarriedOut V (DoesOf x) files call
  pub complete : (x : X) → IsReady call x → CompletesAt V files call
