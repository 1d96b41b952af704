-- What a call that was to do work leaves, and when it is carried out.
use Rattle.std.proofs.Common.{◌≡◌, ◌⊎◌, ℕ, List, [], ◌∷◌, length, inl, inr, sym, ◌∙◌, ap, subst, arith}
use Rattle.std.proofs.Math.Seq.{take-length}
use Rattle.vw_outside.specs.Reads.{CountsFault}
use Rattle.vw_outside.specs.Writes.{SeenSink, appended}
use Rattle.vw_outside.proofs.PiecesWritten.{appended-nil}
use Rattle.vw_course.specs.Vocabulary.{Vocabulary}
use Rattle.vw_course.specs.Outside.{SeenOutside, Work}
use Rattle.vw_course.specs.Endings.{SeenCall}
use Rattle.vw_course.specs.Places.{IsOneOf, Files}
use Rattle.vw_course.specs.Statuses.{DidSome, IsDone, IsWriteStop, IsMemoryStop, IsCarriedOut, IsOneMore, NoFaultAt, CompletesAt, LeavesPart}

module _ (V : Vocabulary) (What : Work V.Word → Type 0) (call : SeenCall V.Word) where
  none_counted : (files : Files V) (file : V.File) (name : List ℕ) → NoFaultAt V files call
      → CountsFault name call.before.shelf call.after.shelf → IsOneOf files (file, name) → ⊥
  none_counted [] file name none counted one = one
  none_counted ((other, own) ∷ files) file name none counted (inl same) =
      none.0 (subst (λ (n : List ℕ). IsOneMore (call.before.shelf.faults n) (call.after.shelf.faults n)) (ap (λ (p : V.File × List ℕ). p.1) same) counted.here)
  none_counted ((other, own) ∷ files) file name none counted (inr one) = none_counted files file name none.1 counted one

  -- where no count rose, it is carried out, unless memory runs out
  pub completes : (files : Files V) → IsCarriedOut V What files call → CompletesAt V files call
  completes files (inl done) no_read no_write = inl done.status
  completes files (inr (inl stop)) no_read no_write = absurd (none_counted files stop.file stop.name no_read stop.counted stop.one)
  completes files (inr (inr (inl stop))) no_read no_write =
      absurd (no_write (ap (λ (o : SeenSink). o.faults) stop.part.0.2))
  completes files (inr (inr (inr stop))) no_read no_write = inr stop.status

  -- a text that was written whole
  whole_part : (text : List ℕ) → call.after.out ≡ appended call.before.out text → LeavesPart text call.before.out call.after.out
  whole_part text all = inl (length text, omega arith, all ∙ ap (appended call.before.out) (sym (take-length text)))

  abbrev pub SomePart : Type 0
  SomePart = (call.after.out ≡ call.before.out) ⊎ ((did : Work V.Word) × What did × LeavesPart did.text call.before.out call.after.out)

  some_done : DidSome What call.before call.after → SomePart
  some_done (inl nothing) = inl nothing.0
  some_done (inr (did, is, part)) = inr (did, is, inl part.0)

  -- whatever the status, out is as it was, or has a part of the text
  pub part_left : (files : Files V) → IsCarriedOut V What files call → SomePart
  part_left files (inl done) =
      inr (done.did, done.is, whole_part done.did.text (ap (λ (o : SeenOutside V.Word). o.out) done.leaves))
  part_left files (inr (inl stop)) = some_done stop.part
  part_left files (inr (inr (inl stop))) = inr (stop.did, stop.is, inr stop.part.0)
  part_left files (inr (inr (inr stop))) = some_done stop.part

-- ---- other words for the work that was done

module _ {Word : Type 0} (What Other : Work Word → Type 0) (also : (did : Work Word) → What did → Other did) (call : SeenCall Word) where
  pub done_as : IsDone What call → IsDone Other call
  done_as done = record { did = done.did; is = also done.did done.is; status = done.status; leaves = done.leaves; silent = done.silent }

  pub write_as : IsWriteStop What call → IsWriteStop Other call
  write_as stop = record { did = stop.did; is = also stop.did stop.is; status = stop.status; shelf = stop.shelf; part = stop.part; message = stop.message }

  some_as : DidSome What call.before call.after → DidSome Other call.before call.after
  some_as (inl nothing) = inl nothing
  some_as (inr (did, is, part)) = inr (did, also did is, part)

  pub memory_as : IsMemoryStop What call → IsMemoryStop Other call
  memory_as stop = record { status = stop.status; shelf = stop.shelf; part = some_as stop.part; message = stop.message }

-- where one text alone may be written, out has a part of it
module _ (V : Vocabulary) (What : Work V.Word → Type 0) (text : List ℕ) (its : (did : Work V.Word) → What did → did.text ≡ text) (call : SeenCall V.Word) where
  -- out as it was has the empty part of any text
  none_written : call.after.out ≡ call.before.out → LeavesPart text call.before.out call.after.out
  none_written same = inl (0, omega arith, same ∙ sym (appended-nil call.before.out))

  of_text : SomePart V What call → LeavesPart text call.before.out call.after.out
  of_text (inl same) = none_written same
  of_text (inr (did, is, part)) =
      subst (λ (t : List ℕ). LeavesPart t call.before.out call.after.out) (its did is) part

  pub text_part : (files : Files V) → IsCarriedOut V What files call → LeavesPart text call.before.out call.after.out
  text_part files out = of_text (part_left V What call files out)
