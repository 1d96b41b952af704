use Rattle.std.proofs.Common.{ℕ, length, subst, sym}
use Rattle.vw_prog.specs.SeenGates.{seen_gate}
use Rattle.vw_node.specs.Slots.{ReadsWithin}
use Rattle.vw_node.proofs.SeenRanges.{gate_within}
use Rattle.vw_node.proofs.gates.run_all.Goals as goal

pub place_at-place-requires-clause-within : goal.place_at-place-requires-clause-within
place_at-place-requires-clause-within g c = subst (λ (count : ℕ). ReadsWithin count (seen_gate g.row.N c.index-gates-i.result)) (sym c.loop-i.invariant.size) (gate_within g.row.N (length c.args.slots.now) c.loop-i.i c.args.gates.now c.index-gates-i.result c.requires.within c.loop-i-test.true c.index-gates-i.is)
