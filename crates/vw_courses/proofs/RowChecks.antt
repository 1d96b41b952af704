-- Checks of the rows of a stimulus, before they are run.
use Rattle.std.proofs.Common.{Bool, List}
use Rattle.vw_courses.specs.declared.vocabulary.Reason.{Reason}
use Rattle.vw_courses.specs.Commands.{RowCheck, no_check, check_by}

-- what rows have to be that pass the check, and how it ends for others
abbrev pub PassCheck : RowCheck → List (List Bool) → Type 0
PassCheck no_check rows = Unit {0}
PassCheck (check_by judged) rows = (judged rows).Good tt

abbrev pub FailCheck : RowCheck → List (List Bool) → Reason → Type 0
FailCheck no_check rows reason = ⊥
FailCheck (check_by judged) rows reason = (judged rows).Bad reason
