-- What works out the clocks of a netlist. Source: this project.
use Rattle.std.specs.Prelude.{◌≡◌, ◌+◌, ℕ, Bool, List, length}
use Rattle.vw_net.specs.declared.flat.Flat.{Flat}
use Rattle.vw_net.specs.Cells.{latch_count}
use Rattle.vw_net.specs.History.{History, flat_history, outputs_of, states_of, state_after}
use Rattle.vw_trace.specs.declared.engine.Batch.{Batch}

-- an engine between two clocks: its netlist, the number of the next clock, counted from 0, and the latch values before it
pub record SeenEngine : Type 0 where
  pub netlist : Flat
  pub clock : ℕ
  pub state : List Bool

-- what it does over some rows
abbrev pub history_of : SeenEngine → List (List Bool) → History
history_of engine rows = flat_history engine.netlist engine.state rows

-- where it stands behind them
abbrev pub engine_after : SeenEngine → List (List Bool) → SeenEngine
engine_after engine rows = record {
  netlist = engine.netlist;
  clock = engine.clock + length rows;
  state = state_after engine.netlist engine.state rows;
}

-- it has worked out the clocks of some rows, which are these
pub record HasWorked (before after : SeenEngine) (rows : List (List Bool)) (batch : Batch) : Type 0 where
  pub latches : length before.state ≡ latch_count before.netlist.cells
  pub outputs : batch.outputs ≡ outputs_of before.netlist before.state rows
  pub states : batch.states ≡ states_of before.netlist before.state rows
  pub stands : after ≡ engine_after before rows
