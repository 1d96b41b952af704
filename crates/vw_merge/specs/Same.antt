-- Netlists that can't be told apart from outside, clock by clock. Source: this project.
use Rattle.std.specs.Prelude.{◌≡◌, Bool, List, length}
use Rattle.vw_net.specs.declared.flat.Flat.{Flat}
use Rattle.vw_net.specs.Cells.{latch_count, start_values}
use Rattle.vw_net.specs.History.{flat_history}

-- as many inputs, outputs and latches, the same start values, and over all rows and from every state the same outputs and latch values
pub record DoesTheSame (flat other : Flat) : Type 0 where
  pub inputs : other.inputs ≡ flat.inputs
  pub outputs : length other.outputs ≡ length flat.outputs
  pub latches : latch_count other.cells ≡ latch_count flat.cells
  pub starts : (unknown : Bool) → start_values unknown other.cells ≡ start_values unknown flat.cells
  pub histories : (state : List Bool) (rows : List (List Bool)) → flat_history other state rows ≡ flat_history flat state rows
