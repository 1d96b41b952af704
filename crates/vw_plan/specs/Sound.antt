-- Sound plans. Source: the papers on Virtual Wires, for wires, hops and microcycles; the exact rules are this project's.
use Rattle.std.specs.Prelude.{◌≡◌, ◌==◌, ◌+◌, ◌≤◌, ◌<◌, ℕ, Bool, true, not, ◌&&◌, List, [], ◌∷◌, length, count_by, slice_get, Some, IsTrue, nat_lt, if◌then◌else◌}
use Rattle.std.specs.List.{All, AllPairs, list_any, flat_map}
use Rattle.std.specs.Option.{ForSome}
use Rattle.vw_net.specs.declared.cell.Init.{Init}
use Rattle.vw_net.specs.declared.cell.Cell.TheVariants.{Latch}
use Rattle.vw_plan.specs.declared.link.Link.{Link}
use Rattle.vw_plan.specs.declared.wire.Hop.{Hop}
use Rattle.vw_plan.specs.declared.wire.Wire.{Wire}
use Rattle.vw_plan.specs.declared.plan.Plan.{Plan}
use Rattle.vw_plan.specs.Chips.{IsChip, cells_on}
use Rattle.vw_plan.specs.Nets.{is_needed}
use Rattle.vw_plan.specs.PlannedBoard.{PlannedBoard, home}
use Rattle.vw_plan.specs.Lead.{arrival, brings, carries, usable}

-- ---- one chip each

-- each cell has one entry, which is a chip; no chip has more cells than it has room for
pub record IsPlaced (planned : PlannedBoard) : Type 0 where
  pub each : length planned.plan.chip_of ≡ length planned.ordered.flat.cells
  pub chips : All (IsChip planned.board) planned.plan.chip_of
  pub room : (chip : ℕ) → cells_on planned.plan.chip_of chip ≤ planned.board.cells

-- ---- one wire for each need

-- each needed pair of a net and a node has one wire, and there is no other wire
abbrev pub HasWires : PlannedBoard → Type 0
HasWires planned = (net node : ℕ)
    → count_by (brings net node) planned.plan.wires
    ≡ (if is_needed planned.ordered.flat planned.plan.chip_of net node then 1 else 0)

-- ---- routes

-- whether a hop goes over a link of the board, and on one of its pins
abbrev pub has_pin : List Link → Hop → Bool
has_pin links hop = list_any (λ link. carries hop link && nat_lt hop.pin link.width) links

-- whether hops lead from a node to another: each begins where the one before it ended
abbrev pub leads_to : ℕ → List Hop → ℕ → Bool
leads_to from [] to = from == to
leads_to from (hop ∷ hops) to = hop.from == from && leads_to hop.to hops to

-- a wire leads from its net's node to its own, over at least one hop
pub record IsRouted (planned : PlannedBoard) (wire : Wire) : Type 0 where
  pub some : 0 < length wire.hops
  pub leads : IsTrue (leads_to (home planned wire.net) wire.hops wire.to)
  pub pins : All (λ hop. IsTrue (has_pin planned.board.links hop)) wire.hops

-- ---- rising microcycles

-- whether each hop is later than the arrival of the one before it
abbrev pub rises : List Link → List Hop → Bool
rises links [] = true
rises links (hop ∷ []) = true
rises links (hop ∷ next ∷ hops) = nat_lt (arrival links hop) next.at && rises links (next ∷ hops)

-- the hops of a wire follow each other, and each arrives before the period ends
pub record IsRising (planned : PlannedBoard) (wire : Wire) : Type 0 where
  pub later : IsTrue (rises planned.board.links wire.hops)
  pub within : All (λ hop. arrival planned.board.links hop < planned.plan.period) wire.hops

-- ---- one hop a pin

-- the hops of a plan, wire after wire
abbrev pub hops_of : Plan → List Hop
hops_of plan = flat_map (λ wire. wire.hops) plan.wires

-- whether two hops have the same link, pin and microcycle
abbrev pub share_pin : Hop → Hop → Bool
share_pin hop other = (hop.from == other.from && hop.to == other.to) && (hop.pin == other.pin && hop.at == other.at)

-- ---- sent when usable

-- the first hop of a wire isn't before its net is usable at its node
abbrev pub IsSentWhenUsable : PlannedBoard → Wire → Type 0
IsSentWhenUsable planned wire = ForSome (slice_get wire.hops 0) (λ hop. usable planned (home planned wire.net) wire.net ≤ hop.at)

-- ---- latches in time

-- the net that a latch reads is usable on the latch's chip by the period
abbrev pub AreLatchesInTime : PlannedBoard → Type 0
AreLatchesInTime planned = (number d : ℕ) (init : Init)
    → slice_get planned.ordered.flat.cells number ≡ Some (Latch d init)
    → usable planned (home planned (planned.ordered.flat.inputs + number)) d ≤ planned.plan.period

-- ---- all of them

pub record IsSound (planned : PlannedBoard) : Type 0 where
  pub one_chip_each : IsPlaced planned
  pub one_wire_for_each_need : HasWires planned
  pub routes : All (IsRouted planned) planned.plan.wires
  pub rising_microcycles : All (IsRising planned) planned.plan.wires
  pub one_hop_a_pin : AllPairs (λ hop other. IsTrue (not (share_pin hop other))) (hops_of planned.plan)
  pub sent_when_usable : All (IsSentWhenUsable planned) planned.plan.wires
  pub latches_in_time : AreLatchesInTime planned
  pub a_period : 1 ≤ planned.plan.period
