-- the clocks so far, and then those of what is left of the rows
use Rattle.std.proofs.Common.{◌≡◌, ◌++◌, length, drop}
use Rattle.vw_net.specs.FoundValue.{as_it_is}
use Rattle.vw_net.specs.History.{outputs_of}
use Rattle.vw_fault.specs.Found.{found_outputs}
use Rattle.vw_fault.specs.Steps.Lanes.{lane_bits}
use Rattle.vw_fault.proofs.outputs.plain_outputs.Given as goal

abbrev pub invariant-loop-number : goal.invariant-loop-number
invariant-loop-number l = record {
  latches : length l.state ≡ length l.start;
  nets : length l.words ≡ l.nets;
  size : length l.bits.items ≡ length l.ordered.flat.outputs;
  made : l.clocks ++ found_outputs as_it_is l.ordered.flat (lane_bits 0 l.state) (drop l.number l.rows) ≡ outputs_of l.ordered.flat l.start l.rows;
}
