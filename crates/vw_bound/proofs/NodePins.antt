-- The pins of each node have room for its pairs in the period of each sound plan.
use Rattle.std.proofs.Common.{◌≡◌, ◌≤◌, ◌+◌, ◌-◌, ◌*◌, ◌&&◌, ◌==◌, ℕ, Bool, true, List, nat_le, eqb, slice_get, Some, ◌∙◌, eqb-true, eq-eqb, subst, arith}
use Rattle.std.proofs.lemmas.Bool.{and_parts, leb-true}
use Rattle.vw_plan.specs.declared.link.Link.{Link}
use Rattle.vw_plan.specs.declared.need.Need.{Need}
use Rattle.vw_plan.specs.declared.wire.Wire.{Wire}
use Rattle.vw_plan.specs.Needs.{needed_pairs}
use Rattle.vw_plan.specs.PlannedBoard.{PlannedBoard, planned_board}
use Rattle.vw_plan.specs.declared.plan.Plan.{Plan}
use Rattle.vw_plan.specs.Sound.{IsSound}
use Rattle.vw_delays.specs.Delays.{least_delay}
use Rattle.vw_delays.proofs.LevelDelays.{least_ways}
use Rattle.vw_bound.specs.PlacedDesigns.{PlacedDesign, placed_by, placed_design}
use Rattle.vw_bound.specs.Pins.{PairsFit, late_pairs, pins_into}
use Rattle.vw_bound.specs.Times.{there}
use Rattle.vw_bound.proofs.BroughtWires.{wire_late}
use Rattle.vw_bound.proofs.PressedPairs.{LastLink, Presses, last_link, pair_of, pressed_fit}
use Rattle.vw_bound.proofs.SoonLeads.{soon_late, usable_home}

module _ (planned : PlannedBoard) (sound : IsSound planned) (node from : ℕ) where
  abbrev to_node : Link → Bool
  to_node link = link.to == node

  abbrev late_there : Need → Bool
  late_there need = need.to == node && nat_le from (there (placed_by planned) need.net need.to)

  presses : (number : ℕ) (wire : Wire) (stands : slice_get planned.plan.wires number ≡ Some wire) → late_there (pair_of wire) ≡ true → Presses planned sound to_node from planned.plan.period late_there wire (last_link planned sound number wire stands)
  presses number wire stands is =
      let own : LastLink planned wire = last_link planned sound number wire stands in
      let parts = and_parts (eqb wire.to node) (nat_le from (there (placed_by planned) wire.net wire.to)) is in
      let ways = least_ways planned.board in
      let late : from ≤ there (placed_by planned) wire.net wire.to = leb-true from (there (placed_by planned) wire.net wire.to) parts.1 in
      record {
        passes = eq-eqb own.over.link.to node (own.over.to ∙ own.to ∙ eqb-true wire.to node parts.0);
        late = omega (arith, late, soon_late planned sound ways wire.net, usable_home planned sound ways wire.net, wire_late planned sound (least_delay planned.board) ways number wire stands);
        in_time = omega (arith, own.brings, own.within);
      }

  node_fits : late_pairs (placed_by planned) node from ≤ pins_into planned.board.links node * (planned.plan.period + 1 - from)
  node_fits = pressed_fit planned sound to_node from planned.plan.period late_there presses (needed_pairs planned.ordered.flat planned.plan.chip_of) (λ net at. omega arith)

-- as in any plan for these chips
pub pairs_fit : (placed : PlacedDesign) (plan : Plan) → plan.chip_of ≡ placed.chip_of → IsSound (planned_board placed.ordered placed.board plan) → PairsFit placed plan.period
pairs_fit placed plan same sound = subst (λ (chips : List ℕ). PairsFit (placed_design placed.ordered placed.board chips) plan.period) same (λ node from. node_fits (planned_board placed.ordered placed.board plan) sound node from)
