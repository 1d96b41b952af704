-- What each status says of a command that reads nothing and writes a text that is always the same.
use Rattle.std.proofs.Common.{◌⊎◌, ℕ, List, [], inl, inr, refl}
use Rattle.vw_course.specs.Course.{Course, writes}
use Rattle.vw_course.specs.Endings.{IsCallOf}
use Rattle.vw_course.specs.Places.{Files}
use Rattle.vw_course.specs.Statuses.{IsDone, IsWriteStop, IsMemoryStop, IsCarriedOut}
use Rattle.vw_course.proofs.StandLaws.{call_works}
use Rattle.vw_course.proofs.CarriedOut.{completes}
use Rattle.vw_courses.specs.Messages.{vocabulary, Call}
use Rattle.vw_statuses.specs.ConstantStatuses.{IsText, ConstantStatuses}

module _ (text : List ℕ) (call : Call) where
  abbrev course : Course vocabulary
  course = writes text

  abbrev no_files : Files vocabulary
  no_files = []

  -- no file is read, so no read fails
  no_read : IsCarriedOut vocabulary (IsText text) no_files call → IsDone (IsText text) call ⊎ (IsWriteStop (IsText text) call ⊎ IsMemoryStop (IsText text) call)
  no_read (inl done) = inl done
  no_read (inr (inl stop)) = absurd stop.one
  no_read (inr (inr stop)) = inr stop

  carried_out : IsCallOf course call → IsCarriedOut vocabulary (IsText text) no_files call
  carried_out is = call_works vocabulary no_files call (IsText text) course is (tt, refl)

  pub constant_table : IsCallOf course call → ConstantStatuses text call
  constant_table is = record { ends = no_read (carried_out is); complete = completes vocabulary (IsText text) call no_files (carried_out is) }
