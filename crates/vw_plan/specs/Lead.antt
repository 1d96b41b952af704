-- When a net has its value at a node. Source: the rules of a virtual wire (a wire may be sent only after the values that
-- it depends on have arrived), as this project states them.
use Rattle.std.specs.Prelude.{◌==◌, ◌+◌, ◌-◌, ℕ, zero, suc, Bool, ◌&&◌, List, [], ◌∷◌, length, if◌then◌else◌}
use Rattle.std.specs.List.{find}
use Rattle.std.specs.Option.{option_map_or}
use Rattle.vw_net.specs.Order.{is_gate}
use Rattle.vw_plan.specs.declared.link.Link.{Link}
use Rattle.vw_plan.specs.declared.wire.Hop.{Hop}
use Rattle.vw_plan.specs.declared.wire.Wire.{Wire}
use Rattle.vw_plan.specs.Nets.{driving_cell, greatest_read}
use Rattle.vw_plan.specs.PlannedBoard.{PlannedBoard, home}

-- whether a link leads where a hop goes
abbrev pub carries : Hop → Link → Bool
carries hop link = link.from == hop.from && link.to == hop.to

-- how many microcycles after it is sent the bit of a hop arrives; 0 where no link leads where the hop goes
abbrev pub lag : List Link → Hop → ℕ
lag links hop = option_map_or (λ link. link.delay - 1) (find (carries hop) links) 0

-- the microcycle in which the bit of a hop arrives, over these links
abbrev pub arrival : List Link → Hop → ℕ
arrival links hop = hop.at + lag links hop

-- one past the arrival of the last of some hops; 0 where there is none
abbrev pub after_last : List Link → List Hop → ℕ
after_last links [] = 0
after_last links (hop ∷ []) = arrival links hop + 1
after_last links (hop ∷ next ∷ hops) = after_last links (next ∷ hops)

-- whether a wire brings a net to a node
abbrev pub brings : ℕ → ℕ → Wire → Bool
brings net node wire = wire.net == net && wire.to == node

-- one past the arrival of a net at a node, by the first wire that brings it there; 0 where there is none
abbrev pub brought_at : PlannedBoard → ℕ → ℕ → ℕ
brought_at planned node net = option_map_or (λ wire. after_last planned.board.links wire.hops) (find (brings net node) planned.plan.wires) 0

-- the lead of a net at a node, where at most this many drivers are followed in a row
abbrev pub level_lead : ℕ → PlannedBoard → ℕ → ℕ → ℕ
level_lead zero planned node net = 0
level_lead (suc level) planned node net =
    if home planned net == node then greatest_read (level_lead level planned node) (driving_cell planned.ordered.flat net)
    else brought_at planned node net

-- the lead of a net at a node: the microcycle from which on what the net rests on is there. One level more than there
-- are cells is enough, since gates don't read in a circle
unfoldable pub lead : PlannedBoard → ℕ → ℕ → ℕ
lead planned node net = level_lead (length planned.ordered.flat.cells + 1) planned node net

-- whether a net is a gate's, and the gate is on this node
abbrev pub is_gate_at : PlannedBoard → ℕ → ℕ → Bool
is_gate_at planned node net = is_gate (driving_cell planned.ordered.flat net) && home planned net == node

-- the microcycle from which on a node can use a net: a gate on the node needs time to settle
abbrev pub usable : PlannedBoard → ℕ → ℕ → ℕ
usable planned node net = lead planned node net + (if is_gate_at planned node net then planned.board.settle else 0)
