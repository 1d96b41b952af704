-- the names so far
use Rattle.std.proofs.Common.{◌≡◌, take}
use Rattle.vw_models.specs.Steps.ModelNames.{numbered_names}
use Rattle.vw_models.proofs.circle.circle_names.Given as goal

abbrev pub invariant-loop-number : goal.invariant-loop-number
invariant-loop-number l = l.names.items ≡ numbered_names l.design (take l.number-index l.circle)
