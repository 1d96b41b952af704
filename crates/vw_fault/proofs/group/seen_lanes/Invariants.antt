-- the clocks so far, and what is left of them, decide
use Rattle.std.proofs.Common.{◌≡◌, ◌<◌, ◌||◌, ℕ, length, drop}
use Rattle.vw_net.specs.TruthTable.{bit_of}
use Rattle.vw_fault.specs.Found.{found_outputs}
use Rattle.vw_fault.specs.Steps.Groups.{plain_of, rows_of}
use Rattle.vw_fault.specs.Steps.Lanes.{find_in, lane_bits}
use Rattle.vw_fault.specs.Stuck.{clocks_differ}
use Rattle.vw_fault.proofs.group.seen_lanes.Given as goal

abbrev pub invariant-loop-number : goal.invariant-loop-number
invariant-loop-number l = record {
  latches : length l.state ≡ length l.initial.state;
  nets : length l.words ≡ length l.initial.words;
  seen : (lane : ℕ) → lane < 64
      → (bit_of l.seen lane || clocks_differ (found_outputs (find_in l.stuck lane) l.grading.ordered.now.flat (lane_bits lane l.state) (drop l.number (rows_of l.grading))) (drop l.number (plain_of l.grading)))
      ≡ (bit_of l.idle lane || clocks_differ (found_outputs (find_in l.stuck lane) l.grading.ordered.now.flat (lane_bits lane l.initial.state) (rows_of l.grading)) (plain_of l.grading));
}
