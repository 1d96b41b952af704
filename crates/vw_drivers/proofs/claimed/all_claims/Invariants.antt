-- the models so far have their claims
use Rattle.vw_drivers.proofs.Claims.{AreClaimsBelow}
use Rattle.vw_drivers.proofs.claimed.all_claims.Given as goal

abbrev pub invariant-loop-model : goal.invariant-loop-model
invariant-loop-model l = AreClaimsBelow l.targets.design.now l.model l.claims.items
