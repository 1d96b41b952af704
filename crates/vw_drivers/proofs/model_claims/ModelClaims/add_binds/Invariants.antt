-- the bindings so far were added
use Rattle.std.proofs.Common.{◌≡◌, drop}
use Rattle.vw_drivers.specs.Steps.GatheredClaims.{binds_made, with_first_claims}
use Rattle.vw_drivers.proofs.model_claims.ModelClaims.add_binds.Given as goal

abbrev pub invariant-loop-number : goal.invariant-loop-number
invariant-loop-number l =
    with_first_claims l.item (binds_made l.outputs l.place l.number (drop l.number l.binds)) l.self
    ≡ with_first_claims l.item (binds_made l.outputs l.place 0 l.binds) l.fn.self
