-- All faults, and all points of a sound plan.
use Rattle.std.proofs.Common.{◌≡◌, ℕ, List, [], ◌∷◌, Option, Some, None, refl, sym}
use Rattle.std.specs.Prelude.{IfNone}
use Rattle.std.proofs.lemmas.Option.{none-some}
use Rattle.vw_net.specs.declared.flat.Flat.{Flat}
use Rattle.vw_plan.specs.declared.board.Board.{Board}
use Rattle.vw_plan.specs.PlannedBoard.{PlannedBoard}
use Rattle.vw_plan.specs.Sound.{IsSound}
use Rattle.vw_plan.specs.Needs.{needed_pairs}
use Rattle.vw_plan.proofs.NeededPairs.{any-needed_pairs}
use Rattle.vw_check.specs.declared.fault.PlanFault.{PlanFault}
use Rattle.vw_net.specs.FirstFound.{first_some}
use Rattle.vw_check.specs.CellFaults.{wrong_cells, zero_period, bad_chip, overfull}
use Rattle.vw_check.specs.WireFaults.{missing_wire, extra_wire}
use Rattle.vw_check.specs.HopFaults.{broken_route, bad_pin, out_of_order, past_period, pin_clash}
use Rattle.vw_check.specs.MicrocycleFaults.{too_early, late_latch}
use Rattle.vw_check.specs.Faults.{chips_fault, plan_fault}
use Rattle.vw_check.specs.Answers.{Breaks, HasPlace}
use Rattle.vw_net.proofs.FirstOptions.{or_none, none_or, or_is}
use Rattle.vw_check.proofs.LawCells.{has_place, right_cells, right_chips, right_room, placed, a_period, no_wrong_cells, no_zero_period, no_bad_chip, no_overfull, wrong_cells_break, zero_period_breaks, bad_chip_breaks, overfull_breaks}
use Rattle.vw_check.proofs.LawWires.{AreNeeds, has_wires, no_missing_wire, no_extra_wire, missing_wire_breaks, extra_wire_breaks}
use Rattle.vw_check.proofs.LawRoutes.{routed, rising, no_broken_route, no_bad_pin, no_out_of_order, no_past_period, broken_route_breaks, bad_pin_breaks, out_of_order_breaks, past_period_breaks}
use Rattle.vw_check.proofs.LawClashes.{none_shared, no_pin_clash, pin_clash_breaks}
use Rattle.vw_check.proofs.LawMicrocycles.{all_sent, latches_in_time, no_too_early, no_late_latch, too_early_breaks, late_latch_breaks}

-- ---- what is found first in a list of searches

abbrev EachNone : {Y : Type 0} → List (Option Y) → Type 0
EachNone [] = Unit {0}
EachNone (found ∷ others) = (found ≡ None) × EachNone others

each_search : {Y : Type 0} (searches : List (Option Y)) → first_some searches ≡ None → EachNone searches
each_search [] is = tt
each_search (found ∷ others) is = let parts = or_none found (first_some others) is in (parts.0, each_search others parts.1)

no_search : {Y : Type 0} (searches : List (Option Y)) → EachNone searches → first_some searches ≡ None
no_search [] each = refl
no_search (found ∷ others) each = none_or found (first_some others) each.0 (no_search others each.1)

abbrev EachGives : {Y : Type 0} → (Y → Type 0) → List (Option Y) → Type 0
EachGives P [] = Unit {0}
EachGives {Y = Y} P (found ∷ others) = ((y : Y) → found ≡ Some y → P y) × EachGives P others

some_search : {Y : Type 0} (P : Y → Type 0) (searches : List (Option Y)) (y : Y) → EachGives P searches → first_some searches ≡ Some y → P y
some_search P [] y each is = absurd (none-some y is)
some_search P (found ∷ others) y each is = or_is found (first_some others) y P is (each.0 y) (some_search P others y each.1)

-- ---- a plan without a fault is sound

module _ (planned : PlannedBoard) where
  needs_are : AreNeeds planned.ordered.flat planned.plan.chip_of (needed_pairs planned.ordered.flat planned.plan.chip_of)
  needs_are net node = sym (any-needed_pairs planned.ordered.flat planned.plan.chip_of net node)

  abbrev cells : List (Option PlanFault)
  cells = wrong_cells planned.ordered.flat planned.plan.chip_of ∷ zero_period planned.plan ∷ bad_chip planned.board planned.plan.chip_of ∷ overfull planned.board planned.plan.chip_of ∷ []

  abbrev wires : List (Option PlanFault)
  wires = missing_wire planned.ordered.flat planned.plan ∷ extra_wire planned.ordered.flat planned.plan ∷ []

  abbrev hops : List (Option PlanFault)
  hops = broken_route planned ∷ bad_pin planned.board planned.plan ∷ out_of_order planned.board planned.plan ∷ past_period planned.board planned.plan ∷ pin_clash planned.plan ∷ []

  abbrev microcycles : List (Option PlanFault)
  microcycles = too_early planned ∷ late_latch planned ∷ []

  abbrev groups_of_faults : List (Option PlanFault)
  groups_of_faults = first_some cells ∷ first_some wires ∷ first_some hops ∷ first_some microcycles ∷ []

  pub sound : plan_fault planned ≡ None → IsSound planned
  unfolding plan_fault
  sound none =
      let each = each_search groups_of_faults none in
      let no_cell = each_search cells each.0 in
      let no_wire = each_search wires each.1.0 in
      let no_hop = each_search hops each.1.1.0 in
      let no_microcycle = each_search microcycles each.1.1.1.0 in record {
        one_chip_each = placed planned no_cell.0 no_cell.1.1.0 no_cell.1.1.1.0;
        one_wire_for_each_need = has_wires planned needs_are no_wire.0 no_wire.1.0;
        routes = routed planned no_hop.0 no_hop.1.0;
        rising_microcycles = rising planned no_hop.1.1.0 no_hop.1.1.1.0;
        one_hop_a_pin = none_shared planned.plan no_hop.1.1.1.1.0;
        sent_when_usable = all_sent planned no_microcycle.0;
        latches_in_time = latches_in_time planned no_microcycle.1.0;
        a_period = a_period planned no_cell.1.0;
      }

  pub faultless : IsSound planned → plan_fault planned ≡ None
  unfolding plan_fault
  faultless is =
      let no_cell = no_search cells (no_wrong_cells planned is.one_chip_each, (no_zero_period planned is.a_period, (no_bad_chip planned is.one_chip_each, (no_overfull planned is.one_chip_each, tt)))) in
      let no_wire = no_search wires (no_missing_wire planned needs_are is.one_wire_for_each_need, (no_extra_wire planned needs_are is.one_wire_for_each_need, tt)) in
      let no_hop = no_search hops (no_broken_route planned is.routes, (no_bad_pin planned is.routes, (no_out_of_order planned is.rising_microcycles, (no_past_period planned is.rising_microcycles, (no_pin_clash planned.plan is.one_hop_a_pin, tt))))) in
      let no_microcycle = no_search microcycles (no_too_early planned is.sent_when_usable, (no_late_latch planned is.latches_in_time, tt)) in
      no_search groups_of_faults (no_cell, (no_wire, (no_hop, (no_microcycle, tt))))

  pub breaks : (fault : PlanFault) → plan_fault planned ≡ Some fault → Breaks planned fault
  unfolding plan_fault
  breaks fault is =
      some_search (Breaks planned) groups_of_faults fault (
        (λ one its. some_search (Breaks planned) cells one (wrong_cells_break planned, (zero_period_breaks planned, (bad_chip_breaks planned, (overfull_breaks planned, tt)))) its),
        (
          (λ one its. some_search (Breaks planned) wires one (missing_wire_breaks planned needs_are, (extra_wire_breaks planned needs_are, tt)) its),
          (
            (λ one its. some_search (Breaks planned) hops one (broken_route_breaks planned, (bad_pin_breaks planned, (out_of_order_breaks planned, (past_period_breaks planned, (pin_clash_breaks planned, tt))))) its),
            (
              (λ one its. some_search (Breaks planned) microcycles one (too_early_breaks planned, (late_latch_breaks planned, tt)) its),
              tt,
            ),
          ),
        ),
      ) is

-- ---- chips without a fault have a place for each cell

module _ (flat : Flat) (board : Board) (chip_of : List ℕ) where
  abbrev chips : List (Option PlanFault)
  chips = wrong_cells flat chip_of ∷ bad_chip board chip_of ∷ overfull board chip_of ∷ []

  pub chips_place : chips_fault flat board chip_of ≡ None → HasPlace flat board chip_of
  chips_place none = let each = each_search chips none in has_place flat board chip_of each.0 each.1.0 each.1.1.0

  pub placed_chips : HasPlace flat board chip_of → chips_fault flat board chip_of ≡ None
  placed_chips place = no_search chips (right_cells flat board chip_of place, (right_chips flat board chip_of place, (right_room flat board chip_of place, tt)))

  -- where nothing is found, they have
  pub found_place : (found : Option PlanFault) → found ≡ chips_fault flat board chip_of → IfNone found (HasPlace flat board chip_of)
  found_place None is = chips_place (sym is)
  found_place (Some fault) is = tt
