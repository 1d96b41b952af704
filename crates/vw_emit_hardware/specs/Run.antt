-- Runs of an emitted board: which bits its nets may have, microclock by microclock. Source: the Berkeley description of
-- BLIF, for tables and latches; this project, for the board.
use Rattle.std.specs.Prelude.{◌≡◌, ◌≤◌, ◌<◌, ℕ, suc, Bool, false, List, length, map, slice_get, slice_index_or, Some}
use Rattle.vw_net.specs.Cells.{start_value}
use Rattle.vw_net.specs.declared.cell.Init.{Init}
use Rattle.vw_net.specs.declared.cover.Mark.{Mark}
use Rattle.vw_plan.specs.PlannedBoard.{PlannedBoard}
use Rattle.vw_plan.specs.declared.link.Link.{Link}
use Rattle.vw_emit_hardware.specs.Items.{node_items}
use Rattle.vw_emit_hardware.specs.Locals.{Local, LocalItem, column, pin_in, pin_out, register, table}
use Rattle.vw_emit_hardware.specs.Ports.{IsUsed}
use Rattle.vw_emit_hardware.specs.Tables.{table_value}

-- a bit for each microclock, node, and net of the node's model
abbrev pub Values : Type 0
Values = ℕ → ℕ → Local → Bool

-- an item of a node of the board, which are the host, 0, and the chips
pub record IsItem (planned : PlannedBoard) (node : ℕ) (item : LocalItem) : Type 0 where
  pub among : node ≤ planned.board.chips
  pub place : ℕ
  pub stands : slice_get (node_items planned node) place ≡ Some item

-- these are the bits of a run over these rows of the board's columns, one for each microclock, where free registers start at
-- `unknown`
pub record IsRun (planned : PlannedBoard) (unknown : Bool) (rows : List (List Bool)) (value : Values) : Type 0 where
  -- a column has its bit of the row
  pub columns : (time number : ℕ) (row : List Bool) → slice_get rows time ≡ Some row → number < planned.ordered.flat.inputs
      → value time 0 (column number) ≡ slice_index_or row number false
  -- what a table drives has its value of what the table reads
  pub tables : (time node : ℕ) (ins : List Local) (out : Local) (on : Bool) (marks : List (List Mark)) → time < length rows
      → IsItem planned node (table ins out on marks) → value time node out ≡ table_value on marks (map (value time node) ins)
  -- a register has its initial value at first
  pub starts : (node : ℕ) (next own : Local) (init : Init) → 0 < length rows
      → IsItem planned node (register next own init) → value 0 node own ≡ start_value unknown init
  -- and then what the net that it reads had a microclock before
  pub steps : (time node : ℕ) (next own : Local) (init : Init) → suc time < length rows
      → IsItem planned node (register next own init) → value (suc time) node own ≡ value time node next
  -- a pin has one bit at both ends of its link
  pub pins : (time number pin : ℕ) (link : Link) → time < length rows
      → slice_get planned.board.links number ≡ Some link → IsUsed planned link pin
      → value time link.to (pin_in number pin) ≡ value time link.from (pin_out number pin)
