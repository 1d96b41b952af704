-- The nets in the model of a node of an emitted board, and its items, which drive them. Source: this project; tables and
-- registers are the `.names` and `.latch` of the Berkeley description of BLIF.
use Rattle.std.specs.Prelude.{ℕ, Bool, List, [], ◌∷◌}
use Rattle.vw_net.specs.declared.cell.Init.{Init}
use Rattle.vw_net.specs.declared.cover.Mark.{Mark}

-- a net of a node's own model, by what it is there
pub data Local : Type 0 where
  -- a column of the design, at the host
  column : (number : ℕ) → Local
  -- a stage of the sequencer: it is 1 in this microcycle alone
  moment : (microcycle : ℕ) → Local
  -- a gate; a latch, and what it takes next; all by the number of the cell
  gate : (cell : ℕ) → Local
  kept : (cell : ℕ) → Local
  coming : (cell : ℕ) → Local
  -- the register of a hop of a wire, and what it takes next
  held : (wire hop : ℕ) → Local
  caught : (wire hop : ℕ) → Local
  -- what leaves by a pin of a link, up to a hop of it by its number, and that bit so many microcycles and one more later
  sent : (link pin number : ℕ) → Local
  delayed : (link pin number : ℕ) → Local
  -- the pin, at the node that it reaches and at the node that it leaves
  pin_in : (link pin : ℕ) → Local
  pin_out : (link pin : ℕ) → Local
  -- an output of the design, at the host
  result : (output : ℕ) → Local

-- what drives a net: a table over other nets, which has the value `on` where a row matches, or a register, which has what
-- another net had a microclock before, and starts at a value
pub data LocalItem : Type 0 where
  table : (ins : List Local) (out : Local) (on : Bool) (rows : List (List Mark)) → LocalItem
  register : (next own : Local) (init : Init) → LocalItem

-- what an item drives, and what it locals_read
abbrev pub drives : LocalItem → Local
drives (table ins out on rows) = out
drives (register next own init) = own

abbrev pub locals_read : LocalItem → List Local
locals_read (table ins out on rows) = ins
locals_read (register next own init) = next ∷ []
