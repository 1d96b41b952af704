-- The numbers of the nets of an emitted board are small.
use Rattle.std.proofs.Common.{◌≡◌, ◌<◌, ◌≤◌, ◌-◌, ◌^◌, ℕ, zero, suc, List, [], ◌∷◌, length, slice_get, Some, ap, sym, subst, ⊎_elim, arith}
use Rattle.std.proofs.lemmas.List.Sums.{sum_by-cons}
use Rattle.std.proofs.lemmas.Option.{none-some, same_Some, slice_get_within}
use Rattle.vw_net.proofs.ListedLists.{StandsIn}
use Rattle.vw_plan.specs.HopCounts.{hop_count}
use Rattle.vw_plan.specs.PlannedBoard.{PlannedBoard}
use Rattle.vw_plan.specs.Sound.{IsSound}
use Rattle.vw_plan.specs.declared.link.Link.{Link}
use Rattle.vw_plan.specs.declared.wire.Wire.{Wire}
use Rattle.vw_plan.proofs.FewLinks.{few_links_on}
use Rattle.vw_plan.proofs.HopsOfWires.{at_place}
use Rattle.vw_emit_hardware.specs.Items.{User, send_item}
use Rattle.vw_emit_hardware.specs.Locals.{Local, LocalItem, drives, pin_in}
use Rattle.vw_emit_hardware.specs.Ports.{node_inputs}
use Rattle.vw_emit_hardware.proofs.DrivenNets.{drives_gate}
use Rattle.vw_emit_hardware.proofs.FewUsers.{few_users}
use Rattle.vw_emit_hardware.proofs.Origins.{IsCatch, IsPin, OfPin, Origin, leaves, of_first, of_gate, of_hop, of_latch, of_pins, of_result, of_stage, sends, waits}
use Rattle.vw_emit_hardware.proofs.PortOrigins.{IsColumnPort, IsPinPort, from_inputs}
use Rattle.vw_emit_names.proofs.Codes.{IsSmallNet}

-- no wire has more hops than all wires together
hops_few : (wires : List Wire) (number : ℕ) (wire : Wire) → slice_get wires number ≡ Some wire → length wire.hops ≤ hop_count wires
hops_few [] number wire at = absurd (none-some wire at)
hops_few (first ∷ wires) zero wire at =
    let same : length first.hops ≡ length wire.hops = ap (λ (w : Wire). length w.hops) (same_Some first wire at) in
    omega (arith, same, sum_by-cons (λ (w : Wire). length w.hops) first wires)
hops_few (first ∷ wires) (suc number) wire at = omega (arith, hops_few wires number wire at, sum_by-cons (λ (w : Wire). length w.hops) first wires)

module _ (planned : PlannedBoard) (sound : IsSound planned) where
  -- the number of a link, and a pin of it
  pub small_pin : (at pin : ℕ) (link : Link) → slice_get planned.board.links at ≡ Some link → pin < link.width → (at < 2 ^ 64) × (pin < 2 ^ 64)
  small_pin at pin link linked within =
      let few = few_links_on planned.board in
      let inside = slice_get_within planned.board.links at link linked in
      let wide = at_place (λ (one : Link). (1 ≤ one.width) × (one.width ≤ 64)) planned.board.links at link planned.board.linked.separate.wide linked in
      (omega (arith, few, inside), omega (arith, within, wide.1))

  pub small_cell : (cell : ℕ) → cell < length planned.ordered.flat.cells → cell < 2 ^ 64
  small_cell cell inside = let few = planned.ordered.flat.few_cells in omega (arith, few, inside)

  module _ (node : ℕ) where
    -- ---- inputs

    pub small_input : (net : Local) → StandsIn net (node_inputs planned node) → IsSmallNet net
    small_input net stands = ⊎_elim of_column of_pin (from_inputs planned node net stands) where
      of_column : IsColumnPort planned node net → IsSmallNet net
      of_column is = let few = planned.ordered.flat.few_inputs in let within = is.within in subst IsSmallNet is.same (omega (arith, few, within), tt)

      of_pin : (is : IsPinPort planned pin_in net) × (is.link.to ≡ node) → IsSmallNet net
      of_pin is = let small = small_pin is.0.at is.0.pin is.0.link is.0.linked is.0.used.within in subst IsSmallNet is.0.same (small.0, (small.1, tt))

    -- ---- what items drive

    abbrev IsSmallItem : LocalItem → Type 0
    IsSmallItem item = IsSmallNet (drives item)

    of_a_pin : (item : LocalItem) → IsPin planned node item → IsSmallItem item
    of_a_pin item is = by is.item_is where
      pins : (is.at < 2 ^ 64) × (is.pin < 2 ^ 64)
      pins = small_pin is.at is.pin is.link is.linked is.within

      sent_small : (number : ℕ) (one : User) → number < 2 ^ 64 → IsSmallItem (send_item is.at is.pin number one)
      sent_small zero one small = (pins.0, (pins.1, (omega arith, tt)))
      sent_small (suc before) one small = (pins.0, (pins.1, (small, tt)))

      by : OfPin planned node is.at is.pin (is.link.delay - 1) is.user is.others item → IsSmallItem item
      by (sends number one at same) =
          let few = few_users planned sound is.link is.pin in
          let long = ap length is.used in
          let short = planned.plan.short in
          let inside = slice_get_within (is.user ∷ is.others) number one at in
          subst IsSmallItem same (sent_small number one (omega (arith, few, long, short, inside)))
      by (waits later below same) =
          let timely = at_place (λ (one : Link). (1 ≤ one.delay) × (one.delay ≤ 16)) planned.board.links is.at is.link planned.board.linked.separate.timely is.linked in
          subst IsSmallItem same (pins.0, (pins.1, (omega (arith, below, timely.1), tt)))
      by (leaves same) = subst IsSmallItem same (pins.0, (pins.1, tt))

    of_a_hop : (item : LocalItem) → IsCatch planned node item → IsSmallItem item
    of_a_hop item is =
        let inside = slice_get_within planned.plan.wires is.wire is.is is.there in
        let below = slice_get_within is.is.hops is.place is.hop is.stands in
        let few_wires = planned.plan.few_wires in
        let few_hops = planned.plan.few_hops in
        let long = hops_few planned.plan.wires is.wire is.is is.there in
        let wire : is.wire < 2 ^ 64 = omega (arith, inside, few_wires) in
        let place : is.place < 2 ^ 64 = omega (arith, below, long, few_hops) in
        ⊎_elim (λ same. subst IsSmallItem same (wire, (place, tt))) (λ same. subst IsSmallItem same (wire, (place, tt))) is.same

    pub small_item : (item : LocalItem) → Origin planned node item → IsSmallItem item
    small_item item (of_first same) = subst IsSmallItem same (omega arith, tt)
    small_item item (of_stage is) = let below = is.below in let short = planned.plan.short in subst IsSmallItem is.same (omega (arith, below, short), tt)
    small_item item (of_gate is) =
        let inside = slice_get_within planned.ordered.flat.cells is.cell _ is.at in
        subst IsSmallItem is.same (subst IsSmallNet (sym (drives_gate planned sound _ _ is.cover)) (small_cell is.cell inside, tt))
    small_item item (of_latch is) =
        let inside = slice_get_within planned.ordered.flat.cells is.cell _ is.at in
        ⊎_elim (λ same. subst IsSmallItem same (small_cell is.cell inside, tt)) (λ same. subst IsSmallItem same (small_cell is.cell inside, tt)) is.same
    small_item item (of_hop is) = of_a_hop item is
    small_item item (of_pins is) = of_a_pin item is
    small_item item (of_result is) =
        let inside = slice_get_within planned.ordered.flat.outputs is.output is.net is.at in
        let few = planned.ordered.flat.few_outputs in
        subst IsSmallItem is.same (omega (arith, inside, few), tt)
