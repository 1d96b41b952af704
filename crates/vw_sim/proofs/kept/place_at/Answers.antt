use Rattle.std.proofs.Common.{ℕ, false, get_or, arith}
use Rattle.vw_net.proofs.Places.{byte-le}
use Rattle.vw_sim.proofs.KeptGates.{rest_place-below}
use Rattle.vw_sim.proofs.kept.place_at.Goals as goal

-- a place is below 64
pub overflow_mul-place : goal.overflow_mul-place
overflow_mul-place c = omega (arith, rest_place-below (λ (net : ℕ). get_or c.as_slice-all.result.now net false) c.args.nets.now c.loop-i.i c.requires.few)

pub overflow_add-place : goal.overflow_add-place
overflow_add-place c = omega (arith, rest_place-below (λ (net : ℕ). get_or c.as_slice-all.result.now net false) c.args.nets.now c.loop-i.i c.requires.few, byte-le)

pub returns-clause-below : goal.returns-clause-below
returns-clause-below c = omega (arith, rest_place-below (λ (net : ℕ). get_or c.as_slice-all.result.now net false) c.args.nets.now c.loop-i.i c.requires.few)
