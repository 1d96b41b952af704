-- the values so far
use Rattle.std.proofs.Common.{◌≡◌, length, take, map, false}
use Rattle.std.specs.Prelude.{slice_index_or}
use Rattle.vw_net.proofs.rows.pick_bits.Given as goal

abbrev pub invariant-loop-i : goal.invariant-loop-i
invariant-loop-i l = record { size : length l.to ≡ length l.places; front : take l.i l.to ≡ map (λ place. slice_index_or l.values place false) (take l.i l.places) }
