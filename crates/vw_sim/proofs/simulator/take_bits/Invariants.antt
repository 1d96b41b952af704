-- the values so far
use Rattle.std.proofs.Common.{◌≡◌, length, take, map, false}
use Rattle.std.specs.Prelude.{slice_index_or}
use Rattle.vw_sim.proofs.simulator.take_bits.Given as goal

abbrev pub invariant-loop-i : goal.invariant-loop-i
invariant-loop-i l = record { size : length l.bits ≡ length l.nets; front : take l.i l.bits ≡ map (λ net. slice_index_or l.values net false) (take l.i l.nets) }
