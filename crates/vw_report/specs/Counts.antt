-- How many cells, wires and hops there are where. Source: this project.
use Rattle.std.specs.Prelude.{◌==◌, ◌&&◌, ℕ, List, Some, count_by}
use Rattle.std.specs.List.{zip}
use Rattle.std.specs.Option.{option_map_or}
use Rattle.vw_net.specs.Order.{is_gate, is_latch}
use Rattle.vw_plan.specs.declared.link.Link.{Link}
use Rattle.vw_plan.specs.declared.wire.Hop.{Hop}
use Rattle.vw_plan.specs.PlannedBoard.{PlannedBoard, home}
use Rattle.vw_plan.specs.Sound.{hops_of}
use Rattle.vw_ready.specs.Links.{link_number}

-- the gates and the latches of a chip
abbrev pub gates_on : PlannedBoard → ℕ → ℕ
gates_on planned chip = count_by (λ placed. placed.0 == chip && is_gate (Some placed.1)) (zip planned.plan.chip_of planned.ordered.flat.cells)

abbrev pub latches_on : PlannedBoard → ℕ → ℕ
latches_on planned chip = count_by (λ placed. placed.0 == chip && is_latch (Some placed.1)) (zip planned.plan.chip_of planned.ordered.flat.cells)

-- the wires that bring a net to a node, and those that bring one of its own to others
abbrev pub wires_to : PlannedBoard → ℕ → ℕ
wires_to planned node = count_by (λ wire. wire.to == node) planned.plan.wires

abbrev pub wires_from : PlannedBoard → ℕ → ℕ
wires_from planned node = count_by (λ wire. home planned wire.net == node) planned.plan.wires

-- the number of the link over which a hop goes; 0 where no link leads there
abbrev pub link_of : List Link → Hop → ℕ
link_of links hop = option_map_or (λ number. number) (link_number links hop.from hop.to) 0

-- the hops over a link
abbrev pub hops_over : PlannedBoard → ℕ → ℕ
hops_over planned number = count_by (λ hop. link_of planned.board.links hop == number) (hops_of planned.plan)
