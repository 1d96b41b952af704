-- Where nets are, and where they are needed. Source: a virtual wire joins a logical output on one FPGA to a logical
-- input on another.
use Rattle.std.specs.Prelude.{◌==◌, ◌-◌, ℕ, Bool, not, ◌&&◌, ◌||◌, List, map, slice_get, slice_index, Option, Some, None, nat_lt, if◌then◌else◌}
use Rattle.std.specs.List.{list_any, zip}
use Rattle.vw_net.specs.declared.cell.Cell.{Cell}
use Rattle.vw_net.specs.declared.cell.Cell.TheVariants.{Gate, Latch}
use Rattle.vw_net.specs.declared.flat.Flat.{Flat}
use Rattle.vw_net.specs.Cells.{read_nets}
use Rattle.vw_net.specs.Order.{is_among}
use Rattle.vw_net.specs.Lists.{greatest}

-- what drives a net: nothing where it is an input, else a cell
abbrev pub driving_cell : Flat → ℕ → Option Cell
driving_cell flat net = if nat_lt net flat.inputs then None else slice_get flat.cells (net - flat.inputs)

-- the node of a net, given the chip of each cell: the host where it is an input, else the chip of the cell that drives it
abbrev pub node_of : Flat → List ℕ → ℕ → ℕ
node_of flat chip_of net = if nat_lt net flat.inputs then 0 else slice_index chip_of (net - flat.inputs)

-- whether a node has a cell that reads a net
abbrev pub is_read_at : Flat → List ℕ → ℕ → ℕ → Bool
is_read_at flat chip_of net node = list_any (λ placed. placed.0 == node && is_among (read_nets placed.1) net) (zip chip_of flat.cells)

-- whether a net is needed at a node: it isn't the net's own, and it has a cell that reads the net, or it is the host and
-- an output has the net
abbrev pub is_needed : Flat → List ℕ → ℕ → ℕ → Bool
is_needed flat chip_of net node =
    not (node_of flat chip_of net == node)
    && (is_read_at flat chip_of net node || (node == 0 && is_among flat.outputs net))

-- the greatest of the numbers of the nets that a gate reads; 0 for a latch, and for an input, which no cell drives
abbrev pub greatest_read : (ℕ → ℕ) → Option Cell → ℕ
greatest_read number_of_net None = 0
greatest_read number_of_net (Some (Gate ins cover)) = greatest (map number_of_net ins)
greatest_read number_of_net (Some (Latch d init)) = 0
