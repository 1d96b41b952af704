-- What a gate and a netlist can be made of.
use Rattle.std.specs.Prelude.{◌≡◌, ℕ, ◌+◌, ◌<◌, ◌≤◌, Bool, List, length}
use Rattle.std.specs.List.{All}
use Rattle.vw_net.specs.declared.cell.Cell.{Cell}
use Rattle.vw_net.specs.declared.cell.Cell.TheVariants.{Gate, Latch}
use Rattle.vw_net.specs.declared.cover.Row.{Row}
use Rattle.vw_net.specs.declared.limits.TheConstants.{MOST_INPUTS, MOST_CELLS, MOST_OUTPUTS, MOST_TABLE_INPUTS}
use Rattle.vw_net.specs.Cells.{IsWellFormed}

-- the rows of a table with so many inputs: not too many inputs, and a mark for each of them in each row
pub record AreRows (inputs : ℕ) (rows : List Row) : Type 0 where
  pub narrow : inputs ≤ MOST_TABLE_INPUTS
  pub even : All (λ row. length row.marks ≡ inputs) rows

-- the gate that reads these nets by a table with these rows
abbrev pub IsGateOf : List ℕ → Bool → List Row → Cell → Type 0
IsGateOf nets on rows (Gate ins cover) = (ins ≡ nets) × (cover.inputs ≡ length nets) × (cover.on ≡ on) × (cover.rows ≡ rows)
IsGateOf nets on rows (Latch d init) = ⊥

-- so many inputs, these cells and these outputs: not too many, each cell well formed, and each output one of the nets
pub record AreParts (inputs : ℕ) (cells : List Cell) (outputs : List ℕ) : Type 0 where
  pub few_inputs : inputs ≤ MOST_INPUTS
  pub few_cells : length cells ≤ MOST_CELLS
  pub few_outputs : length outputs ≤ MOST_OUTPUTS
  pub cells_fit : All (IsWellFormed (inputs + length cells)) cells
  pub outputs_fit : All (λ net. net < inputs + length cells) outputs
