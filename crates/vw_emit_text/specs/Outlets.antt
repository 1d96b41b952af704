-- The hops of a plan by the pins by which they leave, as the text is written from them. Source: this project.
use Rattle.std.specs.Prelude.{◌==◌, ◌&&◌, ℕ, suc, Bool, false, not, List, [], ◌∷◌, ◌++◌, Option, Some, None, if◌then◌else◌}
use Rattle.std.specs.Ordering.{is_lt, nat_cmp, ordering_then}
use Rattle.std.specs.declared.cmp.Ordering.{Ordering}
use Rattle.std.specs.Option.{option_map_or}
use Rattle.vw_plan.specs.declared.link.Link.{Link}
use Rattle.vw_plan.specs.declared.wire.Hop.{Hop}
use Rattle.vw_plan.specs.declared.wire.Wire.{Wire}
use Rattle.vw_plan.specs.Lead.{arrival}
use Rattle.vw_plan.specs.PlannedBoard.{PlannedBoard}
use Rattle.vw_net.specs.Sorting.{sorted}
use Rattle.vw_prog.specs.Timetable.{link_of_hop}
use Rattle.vw_emit_text.specs.declared.numbered_hop.NumberedHop.{NumberedHop}
use Rattle.vw_emit_text.specs.declared.outlet.Outlet.{Outlet}

-- ---- hops with their numbers

abbrev pub numbered_hop : List Link → ℕ → ℕ → ℕ → Hop → NumberedHop
numbered_hop links net wire number hop = record {
  link = link_of_hop links hop;
  pin = hop.pin;
  at = hop.at;
  wire = wire;
  hop = number;
  net = net;
  from = hop.from;
  to = hop.to;
  arrival = arrival links hop;
}

-- those of a wire, from a hop on
abbrev pub hops_of_wire : List Link → ℕ → ℕ → ℕ → List Hop → List NumberedHop
hops_of_wire links net wire number [] = []
hops_of_wire links net wire number (hop ∷ hops) = numbered_hop links net wire number hop ∷ hops_of_wire links net wire (suc number) hops

-- those of all wires, from a wire on
abbrev pub hops_of_wires : List Link → ℕ → List Wire → List NumberedHop
hops_of_wires links number [] = []
hops_of_wires links number (wire ∷ wires) = hops_of_wire links wire.net number 0 wire.hops ++ hops_of_wires links (suc number) wires

-- by wire, and then in the order in which they are made
abbrev pub numbered_hops : PlannedBoard → List NumberedHop
numbered_hops planned = hops_of_wires planned.board.links 0 planned.plan.wires

-- ---- hops by pins

-- by link, then by pin, then by microcycle; a sound plan has one hop there at most
abbrev pub hop_cmp : NumberedHop → NumberedHop → Ordering
hop_cmp hop other =
    ordering_then (nat_cmp hop.link other.link)
    (ordering_then (nat_cmp hop.pin other.pin)
    (ordering_then (nat_cmp hop.at other.at)
    (ordering_then (nat_cmp hop.wire other.wire)
    (ordering_then (nat_cmp hop.hop other.hop)
    (ordering_then (nat_cmp hop.net other.net)
    (ordering_then (nat_cmp hop.from other.from)
    (ordering_then (nat_cmp hop.to other.to) (nat_cmp hop.arrival other.arrival))))))))

abbrev pub leaves_before : NumberedHop → NumberedHop → Bool
leaves_before hop other = is_lt (hop_cmp hop other)

-- whether two hops leave by one pin
abbrev pub have_one_pin : NumberedHop → NumberedHop → Bool
have_one_pin hop other = hop.link == other.link && hop.pin == other.pin

abbrev pub is_of_pin : NumberedHop → Option NumberedHop → Bool
is_of_pin hop other = option_map_or (have_one_pin hop) other false

-- the first of some hops
abbrev pub head_hop : List NumberedHop → Option NumberedHop
head_hop [] = None
head_hop (hop ∷ hops) = Some hop

-- hops in order: each has the number of the hop before it and 1 more, where that one leaves by the same pin, and else 0. It is
-- the last of its pin where the next one leaves by another
abbrev pub outlets_behind : Option NumberedHop → ℕ → List NumberedHop → List Outlet
outlets_behind before number [] = []
outlets_behind before number (hop ∷ hops) =
    let own = if is_of_pin hop before then number else 0 in
    record { hop = hop; number = own; is_last = not (is_of_pin hop (head_hop hops)) } ∷ outlets_behind (Some hop) (suc own) hops

-- the hops by link, pin and microcycle, each with its number among those of its pin
abbrev pub outlets : PlannedBoard → List Outlet
outlets planned = outlets_behind None 0 (sorted leaves_before (numbered_hops planned))
