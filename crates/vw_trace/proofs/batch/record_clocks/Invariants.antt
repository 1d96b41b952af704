-- what was written so far and what the rows that are left give is what all rows give
use Rattle.std.proofs.Common.{◌≡◌, ◌+◌, ◌++◌, length, take, drop}
use Rattle.std.specs.List.{All}
use Rattle.vw_net.specs.Cells.{latch_count}
use Rattle.vw_net.specs.History.{outputs_of, states_of, state_after}
use Rattle.vw_trace.proofs.batch.record_clocks.Given as goal

abbrev pub invariant-loop-place : goal.invariant-loop-place
invariant-loop-place l = record {
  outputs : take l.place l.batch.outputs ++ outputs_of l.simulator.flat l.state (drop l.place l.rows) ≡ outputs_of l.simulator.flat l.fn.state l.rows;
  states : take l.place l.batch.states ++ states_of l.simulator.flat l.state (drop l.place l.rows) ≡ states_of l.simulator.flat l.fn.state l.rows;
  state : state_after l.simulator.flat l.state (drop l.place l.rows) ≡ state_after l.simulator.flat l.fn.state l.rows;
  output_count : length l.batch.outputs ≡ length l.rows;
  state_count : length l.batch.states ≡ length l.rows;
  output_widths : All (λ bits. length bits ≡ length l.simulator.flat.outputs) l.batch.outputs;
  state_widths : All (λ bits. length bits ≡ latch_count l.simulator.flat.cells) l.batch.states;
  latches : length l.state ≡ latch_count l.simulator.flat.cells;
  nets : length l.values ≡ l.simulator.flat.inputs + length l.simulator.flat.cells;
}
