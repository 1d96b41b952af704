-- the bits so far are the values of the nets so far
use Rattle.std.proofs.Common.{◌≡◌, ℕ, false, length, take, map, slice_index_or}
use Rattle.vw_sim.proofs.clock.gather.Given as goal

abbrev pub invariant-loop-i : goal.invariant-loop-i
invariant-loop-i l = (length l.bits ≡ length l.initial.bits) × (take l.i l.bits ≡ map (λ (net : ℕ). slice_index_or l.all net false) (take l.i l.ins))
