-- The same chips and wires with another period.
use Rattle.std.proofs.Common.{◌≡◌, ◌≤◌, ◌<◌, ◌+◌, ◌&&◌, ◌∙◌, ℕ, zero, suc, true, not, IsTrue, List, [], ◌∷◌, length, eqb, get_or, nat_lt, slice_get, slice_index, Option, None, Some, ap, refl, sym, subst, ltb-true, All, arith, if◌then◌else◌}
use Rattle.std.specs.List.{AllPairs, count_by, find, flat_map}
use Rattle.std.specs.Option.{ForSome, option_map_or}
use Rattle.std.proofs.Math.Path.{fun_ext}
use Rattle.std.proofs.lemmas.Bool.{and_parts}
use Rattle.std.proofs.lemmas.List.Elements.{All-cons, All-head, All-tail}
use Rattle.std.proofs.lemmas.Option.{get_or_from_slice_get, slice_get_within}
use Rattle.vw_net.specs.declared.flat.Flat.{Flat}
use Rattle.vw_net.specs.Order.{is_gate}
use Rattle.vw_plan.specs.declared.link.Link.{Link}
use Rattle.vw_plan.specs.declared.plan.Plan.{Plan}
use Rattle.vw_plan.specs.declared.wire.Hop.{Hop}
use Rattle.vw_plan.specs.declared.wire.Wire.{Wire}
use Rattle.vw_plan.specs.Chips.{IsChip, cells_on}
use Rattle.vw_plan.specs.Lead.{after_last, arrival, brings, brought_at, lead, level_lead, usable}
use Rattle.vw_plan.specs.Nets.{driving_cell, greatest_read, is_needed, node_of}
use Rattle.vw_plan.specs.PlannedBoard.{PlannedBoard, home, planned_board}
use Rattle.vw_plan.specs.Sound.{IsRising, IsRouted, IsSentWhenUsable, IsSound, leads_to, rises, share_pin}
use Rattle.vw_chain.specs.declared.chain.Chain.{Chain}
use Rattle.vw_chain.specs.declared.chain.Critical.{Critical}
use Rattle.vw_chain.specs.declared.chain.End.{End}
use Rattle.vw_chain.specs.declared.chain.End.TheVariants as end
use Rattle.vw_chain.specs.Chains.{IsCritical, IsDue, IsWaitedFor, LeadsThere}
use Rattle.vw_chain.proofs.GateReads.{its_home}

-- hops that follow each other arrive before the last one has
before_last : (links : List Link) (hops : List Hop) → rises links hops ≡ true → All (λ hop. arrival links hop < after_last links hops) hops
before_last links [] rising = λ place default within. absurd (omega (arith, within))
before_last links (hop ∷ []) rising = All-cons (λ one. arrival links one < arrival links hop + 1) hop [] (omega arith) (λ place default within. absurd (omega (arith, within)))
before_last links (hop ∷ next ∷ hops) rising =
    let parts = and_parts (nat_lt (arrival links hop) next.at) (rises links (next ∷ hops)) rising in
    let rest = before_last links (next ∷ hops) parts.1 in
    let last = after_last links (next ∷ hops) in
    let later : arrival links hop < next.at = ltb-true (arrival links hop) next.at parts.0 in
    All-cons (λ one. arrival links one < last) hop (next ∷ hops) (omega (arith, later, All-head (λ one. arrival links one < last) next hops rest)) rest

-- and the last one within a period in which all do
last_within : (links : List Link) (period : ℕ) (hops : List Hop) → All (λ hop. arrival links hop < period) hops → after_last links hops ≤ period
last_within links period [] all = omega arith
last_within links period (hop ∷ []) all = omega (arith, All-head (λ (one : Hop). arrival links one < period) hop [] all)
last_within links period (hop ∷ next ∷ hops) all = last_within links period (next ∷ hops) (All-tail (λ (one : Hop). arrival links one < period) hop (next ∷ hops) all)

module _ (planned : PlannedBoard) (other : Plan) (chips : other.chip_of ≡ planned.plan.chip_of) (wires : other.wires ≡ planned.plan.wires) where
  abbrev changed : PlannedBoard
  changed = planned_board planned.ordered planned.board other

  abbrev flat : Flat
  flat = planned.ordered.flat

  abbrev links : List Link
  links = planned.board.links

  home_same : (net : ℕ) → home changed net ≡ home planned net
  home_same net = ap (λ (list : List ℕ). node_of flat list net) chips

  brought_same : (node net : ℕ) → brought_at changed node net ≡ brought_at planned node net
  brought_same node net = ap (λ (list : List Wire). option_map_or (λ (wire : Wire). after_last links wire.hops) (find (brings net node) list) 0) wires

  level_same : (level node : ℕ) → level_lead level changed node ≡ level_lead level planned node
  level_same zero node = refl
  level_same (suc level) node = fun_ext (λ net i. if eqb (home_same net i) node then greatest_read (level_same level node i) (driving_cell flat net) else brought_same node net i)

  lead_same : (node net : ℕ) → lead changed node net ≡ lead planned node net
  unfolding lead
  lead_same node net = ap (λ (of : ℕ → ℕ). of net) (level_same (length flat.cells + 1) node)

  usable_same : (node net : ℕ) → usable changed node net ≡ usable planned node net
  usable_same node net = λ i. lead_same node net i + (if is_gate (driving_cell flat net) && eqb (home_same net i) node then planned.board.settle else 0)

  module _ (sound : IsSound planned) (last : ℕ) (due : IsDue planned last) (some : 1 ≤ other.period) (late : last ≤ other.period) where
    routed : (wire : Wire) → IsRouted planned wire → IsRouted changed wire
    routed wire is = record { some = is.some; leads = subst (λ (node : ℕ). leads_to node wire.hops wire.to ≡ true) (sym (home_same wire.net)) is.leads; pins = is.pins }

    risen : (wire : Wire) → after_last links wire.hops ≤ last → IsRising planned wire → IsRising changed wire
    risen wire by is = record {
      later = is.later;
      within = λ place default within. omega (arith, before_last links wire.hops is.later place default within, by, late);
    }

    sent : (wire : Wire) → IsSentWhenUsable planned wire → IsSentWhenUsable changed wire
    sent wire is =
        subst (λ (time : ℕ). ForSome (slice_get wire.hops 0) (λ (hop : Hop). time ≤ hop.at))
        (sym (usable_same (home changed wire.net) wire.net ∙ ap (λ (node : ℕ). usable planned node wire.net) (home_same wire.net))) is

    pub still_sound : IsSound changed
    still_sound = record {
      one_chip_each = record {
        each = ap (λ (list : List ℕ). length list) chips ∙ sound.one_chip_each.each;
        chips = subst (All (IsChip planned.board)) (sym chips) sound.one_chip_each.chips;
        room = λ chip. subst (λ (list : List ℕ). cells_on list chip ≤ planned.board.cells) (sym chips) (sound.one_chip_each.room chip);
      };
      one_wire_for_each_need = λ net node. ap (λ (list : List Wire). count_by (brings net node) list) wires ∙ sound.one_wire_for_each_need net node
          ∙ ap (λ (list : List ℕ). if is_needed flat list net node then 1 else 0) (sym chips);
      routes = subst (All (IsRouted changed)) (sym wires) (λ place default within. routed (get_or planned.plan.wires place default) (sound.routes place default within));
      rising_microcycles = subst (All (IsRising changed)) (sym wires)
          (λ place default within. risen (get_or planned.plan.wires place default) (due.wires place default within) (sound.rising_microcycles place default within));
      one_hop_a_pin = subst (λ (list : List Wire). AllPairs (λ (hop further : Hop). IsTrue (not (share_pin hop further))) (flat_map (λ (wire : Wire). wire.hops) list)) (sym wires) sound.one_hop_a_pin;
      sent_when_usable = subst (All (IsSentWhenUsable changed)) (sym wires) (λ place default within. sent (get_or planned.plan.wires place default) (sound.sent_when_usable place default within));
      latches_in_time = λ number d init there.
          let net = flat.inputs + number in
          let same : usable changed (home changed net) d ≡ usable planned (slice_index planned.plan.chip_of number) d =
          usable_same (home changed net) d ∙ ap (λ (node : ℕ). usable planned node d) (home_same net ∙ its_home planned number) in
          omega (arith, same, due.latches number d init there, late);
      a_period = some;
    }

  -- what a sound plan waits for is within its period
  module _ (sound : IsSound changed) where
    waited_within : (its : End) (net node last : ℕ) → IsWaitedFor planned its net node last → last ≤ other.period
    waited_within (end.Wire number) net node last so =
        let wire = so.0 in
        let there : slice_get other.wires number ≡ Some wire = ap (λ (list : List Wire). slice_get list number) wires ∙ so.1 in
        let is : IsRising changed wire = subst (IsRising changed) (get_or_from_slice_get other.wires number wire wire there) (sound.rising_microcycles number wire (slice_get_within other.wires number wire there)) in
        omega (arith, last_within links other.period wire.hops is.within, so.4)
    waited_within (end.Latch number reads) net node last so =
        let made = flat.inputs + number in
        let same : usable changed (home changed made) reads ≡ usable planned (slice_index planned.plan.chip_of number) reads =
        usable_same (home changed made) reads ∙ ap (λ (at : ℕ). usable planned at reads) (home_same made ∙ its_home planned number) in
        let waits : usable planned (slice_index planned.plan.chip_of number) reads ≡ last = ap (λ (at : ℕ). usable planned at reads) so.3 ∙ ap (usable planned node) so.2 ∙ so.4 in
        omega (arith, same, waits, sound.latches_in_time number reads so.0 so.1)

    led_within : (last : ℕ) (found : Option Chain) → LeadsThere planned last found → last ≤ other.period
    led_within last None none = omega (arith, none)
    led_within last (Some chain) is = waited_within chain.end is.net is.node last is.ends

    pub last_needed : (found : Critical) → IsCritical planned found → found.last ≤ other.period
    last_needed found is = led_within found.last found.chain is.chain
