-- What each status says of words that spell no command.
use Rattle.std.proofs.Common.{◌≡◌, ◌⊎◌, ℕ, [], inl, inr, refl}
use Rattle.vw_course.specs.Course.{Course}
use Rattle.vw_course.specs.Endings.{IsCallOf}
use Rattle.vw_course.specs.Places.{Files}
use Rattle.vw_course.specs.Statuses.{IsRefusedFor, IsStopped}
use Rattle.vw_course.proofs.StandLaws.{call_refused}
use Rattle.vw_courses.specs.declared.vocabulary.Reason.TheVariants.{Usage}
use Rattle.vw_courses.specs.Messages.{vocabulary, Call}
use Rattle.vw_courses.specs.Commands.{usage_course}
use Rattle.vw_statuses.specs.UsageStatuses.{UsageStatuses}

module _ (place : ℕ) (call : Call) where
  abbrev course : Course vocabulary
  course = usage_course place

  abbrev no_files : Files vocabulary
  no_files = []

  -- no file is read, so no read fails
  no_read : IsRefusedFor vocabulary (λ reason. reason ≡ Usage place) call ⊎ IsStopped vocabulary no_files call → UsageStatuses place call
  no_read (inl refused) = inl refused
  no_read (inr (inl stop)) = absurd stop.one
  no_read (inr (inr stop)) = inr stop

  pub usage_table : IsCallOf course call → UsageStatuses place call
  usage_table is = no_read (call_refused vocabulary no_files call (λ reason. reason ≡ Usage place) course is refl)
