use Rattle.std.proofs.Common.{◌≡◌, ℕ, Bool, true}
use Rattle.std.specs.Option.{is_some}
use Rattle.vw_crew.specs.Laying.{AreHung}
use Rattle.vw_crew.proofs.Laid.{IsLifting}
use Rattle.vw_crew.proofs.laying.lift_all.Given as goal

-- the links below the number are lifted
abbrev pub invariant-loop-number : goal.invariant-loop-number
invariant-loop-number g l = (keeps : Bool) (moved : ℕ → ℕ) → (is_some (g.F.Fabric.carried l.fn.fabric) ≡ true → keeps ≡ true) → AreHung l.fn.job keeps 0 l.fn.count moved l.fn.groups
    → IsLifting l.fn.job keeps l.fn.count moved l.fn.groups l.groups (g.F.Fabric.carried l.fn.fabric) (g.F.Fabric.carried l.fabric) l.number
