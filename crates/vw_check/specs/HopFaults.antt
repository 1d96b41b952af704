-- What is wrong with the hops of a plan. Wires and hops are looked at in the order of the plan, and numbered from 0.
use Rattle.std.specs.Prelude.{◌==◌, ℕ, zero, suc, Bool, true, ◌&&◌, ◌||◌, List, [], ◌∷◌, ◌++◌, length, take, slice_get, Option, Some, option_map, find, nat_lt, if◌then◌else◌}
use Rattle.std.specs.Option.{option_map_or}
use Rattle.vw_plan.specs.declared.link.Link.{Link}
use Rattle.vw_plan.specs.declared.board.Board.{Board}
use Rattle.vw_plan.specs.declared.plan.Plan.{Plan}
use Rattle.vw_plan.specs.declared.wire.Hop.{Hop}
use Rattle.vw_plan.specs.declared.wire.Wire.{Wire}
use Rattle.vw_plan.specs.PlannedBoard.{PlannedBoard, home}
use Rattle.vw_plan.specs.Lead.{arrival}
use Rattle.vw_plan.specs.Sound.{has_pin, share_pin}
use Rattle.vw_plan.specs.Walks.{has_link}
use Rattle.vw_check.specs.declared.fault.PlanFault.{PlanFault}
use Rattle.vw_check.specs.declared.fault.PlanFault.TheVariants.{BrokenRoute, BadPin, OutOfOrder, PastPeriod, PinClash}
use Rattle.vw_net.specs.FirstFound.{first_at, found_unless}

-- the first fault of a hop, given what is found at a hop of a wire: it is told the number of the wire, the wire, the number
-- of the hop and the hop
abbrev pub first_hop : (ℕ → Wire → ℕ → Hop → Option PlanFault) → Plan → Option PlanFault
first_hop found plan = first_at (λ number wire. first_at (found number wire) 0 wire.hops) 0 plan.wires

-- ---- routes

-- where a hop has to begin: at the net's own node, or where the hop before it ends
abbrev pub begins_at : ℕ → List Hop → ℕ → ℕ
begins_at from hops zero = from
begins_at from hops (suc number) = option_map_or (λ before. before.to) (slice_get hops number) from

-- whether a hop goes on with the route of its wire, which begins at a node: it begins where it has to, a link leads where it
-- goes, and the last hop ends at the wire's node
abbrev pub fits_route : List Link → ℕ → Wire → ℕ → Hop → Bool
fits_route links from wire number hop =
    (hop.from == begins_at from wire.hops number && has_link links hop.from hop.to)
    && (nat_lt (suc number) (length wire.hops) || hop.to == wire.to)

-- the first hop of a wire that breaks its route, or none; a wire without hops breaks it at hop 0
abbrev pub broken_wire : PlannedBoard → ℕ → Wire → Option PlanFault
broken_wire planned number wire =
    if length wire.hops == 0 then Some (BrokenRoute number 0)
    else first_at (λ place hop. found_unless (fits_route planned.board.links (home planned wire.net) wire place hop) (BrokenRoute number place)) 0 wire.hops

abbrev pub broken_route : PlannedBoard → Option PlanFault
broken_route planned = first_at (broken_wire planned) 0 planned.plan.wires

-- ---- pins

-- the first hop whose pin isn't one of its link
abbrev pub bad_pin : Board → Plan → Option PlanFault
bad_pin board plan = first_hop (λ number wire place hop. found_unless (has_pin board.links hop) (BadPin number place)) plan

-- ---- microcycles

-- whether a hop is later than the arrival of the one before it
abbrev pub is_later : List Link → List Hop → ℕ → Hop → Bool
is_later links hops zero hop = true
is_later links hops (suc number) hop = option_map_or (λ before. nat_lt (arrival links before) hop.at) (slice_get hops number) true

-- the first hop that isn't later than the arrival of the one before it
abbrev pub out_of_order : Board → Plan → Option PlanFault
out_of_order board plan = first_hop (λ number wire place hop. found_unless (is_later board.links wire.hops place hop) (OutOfOrder number place)) plan

-- the first hop that doesn't arrive before the period ends
abbrev pub past_period : Board → Plan → Option PlanFault
past_period board plan = first_hop (λ number wire place hop. found_unless (nat_lt (arrival board.links hop) plan.period) (PastPeriod number place)) plan

-- ---- clashes

-- a hop, with the number of its wire and its own number in the wire
pub record PlacedHop : Type 0 where
  pub wire : ℕ
  pub number : ℕ
  pub hop : Hop

abbrev pub hops_placed : ℕ → ℕ → List Hop → List PlacedHop
hops_placed wire number [] = []
hops_placed wire number (hop ∷ hops) = record { wire = wire; number = number; hop = hop } ∷ hops_placed wire (suc number) hops

-- the hops of wires, which are numbered from this number on, in order
abbrev pub wires_placed : ℕ → List Wire → List PlacedHop
wires_placed number [] = []
wires_placed number (wire ∷ wires) = hops_placed number 0 wire.hops ++ wires_placed (suc number) wires

-- the first of some hops with the link, the pin and the microcycle of a hop
abbrev pub first_sharing : List PlacedHop → Hop → Option PlacedHop
first_sharing placed hop = find (λ earlier. share_pin earlier.hop hop) placed

-- the first hop that shares its pin with an earlier one; of these, the earliest is named
abbrev pub pin_clash : Plan → Option PlanFault
pin_clash plan =
    first_at (λ place later. option_map (λ earlier. PinClash earlier.wire earlier.number later.wire later.number) (first_sharing (take place (wires_placed 0 plan.wires)) later.hop))
    0 (wires_placed 0 plan.wires)
