-- in each lane the nets of the latches so far have what is found of them, and the other nets what they had
use Rattle.std.proofs.Common.{◌≡◌, ◌<◌, ◌+◌, ℕ, length, drop}
use Rattle.vw_net.specs.Cells.{latch_count}
use Rattle.vw_fault.specs.Steps.Lanes.{find_in, lane_bits}
use Rattle.vw_fault.proofs.Latches.{ArePut}
use Rattle.vw_fault.proofs.clock.put_latches.Given as goal

abbrev pub invariant-loop-number : goal.invariant-loop-number
invariant-loop-number l = record {
  nets : length l.words ≡ length l.initial.words;
  left : l.latch + latch_count (drop l.number l.cell-items) ≡ latch_count l.cell-items;
  put : (lane : ℕ) → lane < 64
      → ArePut (find_in l.stuck lane) l.first l.cell-items (lane_bits lane l.state) (lane_bits lane l.initial.words) (lane_bits lane l.words) l.number;
}
