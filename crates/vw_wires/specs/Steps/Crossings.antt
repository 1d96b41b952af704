-- The reads that cross from one node to another, one by one. Source: this project.
use Rattle.std.specs.Prelude.{◌==◌, ◌++◌, ℕ, not, List, map}
use Rattle.std.specs.List.{filter, flat_map, zip}
use Rattle.vw_net.specs.declared.cell.Cell.{Cell}
use Rattle.vw_net.specs.declared.flat.Flat.{Flat}
use Rattle.vw_net.specs.Cells.{read_nets}
use Rattle.vw_plan.specs.declared.need.Need.{Need}
use Rattle.vw_plan.specs.Nets.{node_of}

-- of the nets that a node reads, those of other nodes, with the node
abbrev pub crossing_nets : Flat → List ℕ → ℕ → List ℕ → List Need
crossing_nets flat chip_of node nets = map (λ net. record { net = net; to = node }) (filter (λ net. not (node_of flat chip_of net == node)) nets)

-- those of the reads of cells, given the chip of each
abbrev pub cell_crossings : Flat → List ℕ → List (ℕ × Cell) → List Need
cell_crossings flat chip_of placed = flat_map (λ one. crossing_nets flat chip_of one.0 (read_nets one.1)) placed

-- those of all cells, and those of the outputs, which the host reads
abbrev pub crossings : Flat → List ℕ → List Need
crossings flat chip_of = cell_crossings flat chip_of (zip chip_of flat.cells) ++ crossing_nets flat chip_of 0 flat.outputs
