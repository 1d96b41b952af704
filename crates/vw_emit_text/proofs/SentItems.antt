-- The items of the hops that leave a node, pin by pin.
use Rattle.std.proofs.Common.{◌≡◌, ◌∙◌, ◌++◌, ◌+◌, ◌-◌, ◌==◌, ℕ, zero, suc, Bool, true, false, cond, List, [], ◌∷◌, length, map, ap, ap₂, refl, sym, append-nil, ne_eqb, arith}
use Rattle.std.specs.List.{AllByRecursion, flat_map}
use Rattle.vw_net.specs.declared.cell.Init.TheVariants.{Zero as StartsAtZero}
use Rattle.vw_net.proofs.ListedLists.{listed_agree}
use Rattle.vw_net.specs.Gathered.{gather, listed}
use Rattle.vw_plan.specs.PlannedBoard.{PlannedBoard}
use Rattle.vw_plan.specs.Sound.{IsSound}
use Rattle.vw_plan.specs.declared.link.Link.{Link}
use Rattle.vw_emit_hardware.specs.Items.{User, delay_item, late_name, link_items, pin_items, pins_from, send_item, users}
use Rattle.vw_emit_hardware.specs.Locals.{Local, LocalItem, delayed, moment, pin_out, register, sent, table}
use Rattle.vw_emit_hardware.specs.Tables.{both, both_or, pass}
use Rattle.vw_emit_text.specs.Outlets.{outlets}
use Rattle.vw_emit_text.specs.Steps.{choosing, delayed_item, end_items, late, local_sent, outlet_items, sent_items}
use Rattle.vw_emit_text.specs.declared.numbered_hop.NumberedHop.{NumberedHop}
use Rattle.vw_emit_text.specs.declared.outlet.Outlet.{Outlet}
use Rattle.vw_emit_text.proofs.Blocks.{in_turn, is_end}
use Rattle.vw_emit_text.proofs.ByPins.{IsOf, by_pins}
use Rattle.vw_emit_text.proofs.Lists.{gather_when, gathered_lines}
use Rattle.vw_emit_text.proofs.PinUsers.{user_of}

-- what is given by each of some outlets by a test
given_when : {X : Type 0} (test : Bool) (each other : Outlet → List X) (list : List Outlet)
    → AllByRecursion (λ outlet. each outlet ≡ cond test (other outlet) []) list
    → flat_map each list ≡ cond test (flat_map other list) []
given_when true each other [] all = refl
given_when false each other [] all = refl
given_when true each other (outlet ∷ list) all = ap₂ (λ first rest. first ++ rest) all.0 (given_when true each other list all.1)
given_when false each other (outlet ∷ list) all = ap₂ (λ first rest. first ++ rest) all.0 (given_when false each other list all.1)

-- ---- what one hop sends

-- what a pin gives later
late_is : (outlet : Outlet) (later : ℕ) → late_name outlet.hop.link outlet.hop.pin outlet.number later ≡ late outlet later
late_is outlet zero = refl
late_is outlet (suc before) =
    let link = outlet.hop.link in
    let pin = outlet.hop.pin in
    let other = ne_eqb (suc before) 0 (λ same. omega (arith, same)) in
    let one : before ≡ suc before - 1 = omega arith in
    ap (delayed link pin) one
    ∙ sym (ap (λ (test : Bool). cond test (sent link pin outlet.number) (delayed link pin (suc before - 1))) other)

module _ (planned : PlannedBoard) where
  -- its table
  send_is : (outlet : Outlet) → send_item outlet.hop.link outlet.hop.pin outlet.number (user_of planned outlet.hop) ≡ choosing planned outlet
  send_is outlet = by outlet.number where
    by : (number : ℕ) → send_item outlet.hop.link outlet.hop.pin number (user_of planned outlet.hop) ≡ choosing planned (record { hop = outlet.hop; number = number; is_last = outlet.is_last })
    by zero = refl
    by (suc before) =
        let link = outlet.hop.link in
        let pin = outlet.hop.pin in
        let other = ne_eqb (suc before) 0 (λ same. omega (arith, same)) in
        let one : before ≡ suc before - 1 = omega arith in
        let first = table (moment outlet.hop.at ∷ local_sent planned outlet.hop ∷ []) (sent link pin (suc before)) true both in
        let longer = λ (earlier : ℕ). table (moment outlet.hop.at ∷ local_sent planned outlet.hop ∷ sent link pin earlier ∷ []) (sent link pin (suc before)) true both_or in
        ap longer one ∙ sym (ap (λ (test : Bool). cond test first (longer (suc before - 1))) other)

  -- what stands behind the last hop of a pin: registers, and the pin's port
  abbrev ends : ℕ → ℕ → ℕ → ℕ → List LocalItem
  ends link pin lag last = gather (λ later. delay_item link pin last later ∷ []) lag ++ table (late_name link pin last lag ∷ []) (pin_out link pin) true pass ∷ []

  ends_are : (outlet : Outlet) → ends outlet.hop.link outlet.hop.pin (outlet.hop.arrival - outlet.hop.at) outlet.number ≡ end_items outlet
  ends_are outlet =
      let link = outlet.hop.link in
      let pin = outlet.hop.pin in
      let last = outlet.number in
      let lag = outlet.hop.arrival - outlet.hop.at in
      ap₂ (λ (front back : List LocalItem). front ++ back)
      (gathered_lines (λ later. delay_item link pin last later ∷ []) (delayed_item outlet) lag
      (λ later. ap (λ (from : Local). register from (delayed link pin later) StartsAtZero ∷ []) (late_is outlet later)))
      (ap (λ (from : Local). table (from ∷ []) (pin_out link pin) true pass ∷ []) (late_is outlet lag))

  module _ (number pin : ℕ) (link : Link) where
    abbrev IsHere : NumberedHop → Type 0
    IsHere = IsOf planned number pin link

    -- the items of some users of a pin, from a number on
    abbrev senders : ℕ → List User → List LocalItem
    senders k list = listed (λ at one. send_item number pin at one ∷ []) k list

    one_is : (outlet : Outlet) → IsHere outlet.hop → send_item number pin outlet.number (user_of planned outlet.hop) ≡ choosing planned outlet
    one_is outlet is = ap₂ (λ (l p : ℕ). send_item l p outlet.number (user_of planned outlet.hop)) (sym is.own.over) (sym is.own.by) ∙ send_is outlet

    last_are : (outlet : Outlet) → IsHere outlet.hop → ends number pin (link.delay - 1) outlet.number ≡ end_items outlet
    last_are outlet is =
        ap₂ (λ (l p : ℕ). ends l p (link.delay - 1) outlet.number) (sym is.own.over) (sym is.own.by)
        ∙ ap (λ (lag : ℕ). ends outlet.hop.link outlet.hop.pin lag outlet.number) (sym is.goes.late) ∙ ends_are outlet

    -- those of all hops of a pin, from one on
    turns_are : (k : ℕ) (hop : NumberedHop) (hops : List NumberedHop) → AllByRecursion IsHere (hop ∷ hops)
        → flat_map (outlet_items planned) (in_turn k (hop ∷ hops))
        ≡ senders k (map (user_of planned) (hop ∷ hops)) ++ ends number pin (link.delay - 1) (k + length (map (user_of planned) hops))
    turns_are k hop [] all =
        let outlet : Outlet = record { hop = hop; number = k; is_last = true } in
        let none : k ≡ k + 0 = omega arith in
        append-nil (outlet_items planned outlet)
        ∙ ap₂ (λ (one : LocalItem) (rest : List LocalItem). one ∷ rest) (sym (one_is outlet all.0))
        (sym (last_are outlet all.0) ∙ ap (λ (last : ℕ). ends number pin (link.delay - 1) last) none)
    turns_are k hop (next ∷ hops) all =
        let outlet : Outlet = record { hop = hop; number = k; is_last = false } in
        let more = length (map (user_of planned) hops) in
        let one : suc k + more ≡ k + suc more = omega arith in
        ap₂ (λ (first : LocalItem) (rest : List LocalItem). first ∷ rest) (sym (one_is outlet all.0))
        (turns_are (suc k) next hops all.1
        ∙ ap (λ (last : ℕ). senders (suc k) (map (user_of planned) (next ∷ hops)) ++ ends number pin (link.delay - 1) last) one)

    pin_is : (hops : List NumberedHop) → AllByRecursion IsHere hops
        → flat_map (outlet_items planned) (in_turn 0 hops) ≡ pin_items number pin (link.delay - 1) (map (user_of planned) hops)
    pin_is [] all = refl
    pin_is (hop ∷ hops) all =
        let more = length (map (user_of planned) hops) in
        let none : 0 + more ≡ more = omega arith in
        turns_are 0 hop hops all ∙ ap (λ (last : ℕ). senders 0 (map (user_of planned) (hop ∷ hops)) ++ ends number pin (link.delay - 1) last) none

    -- at a node, those of the links that leave it
    sender_is : (node : ℕ) (hops : List NumberedHop) → AllByRecursion IsHere hops
        → sent_items planned node (in_turn 0 hops) ≡ cond (link.from == node) (pin_items number pin (link.delay - 1) (map (user_of planned) hops)) []
    sender_is node hops all =
        given_when (link.from == node) (λ outlet. cond (outlet.hop.from == node) (outlet_items planned outlet) []) (outlet_items planned) (in_turn 0 hops) (each 0 hops all)
        ∙ ap (λ (items : List LocalItem). cond (link.from == node) items []) (pin_is hops all) where
          each : (k : ℕ) (some : List NumberedHop) → AllByRecursion IsHere some
              → AllByRecursion (λ outlet. cond (outlet.hop.from == node) (outlet_items planned outlet) [] ≡ cond (link.from == node) (outlet_items planned outlet) []) (in_turn k some)
          each k [] every = tt
          each k (hop ∷ some) every =
              (ap (λ (from : ℕ). cond (from == node) (outlet_items planned (record { hop = hop; number = k; is_last = is_end some })) []) every.0.goes.from, each (suc k) some every.1)

-- the items of the pins that leave a node
pub senders_are : (planned : PlannedBoard) → IsSound planned → (node : ℕ) → sent_items planned node (outlets planned) ≡ pins_from planned node
senders_are planned sound node =
    by_pins planned sound (λ outlet. cond (outlet.hop.from == node) (outlet_items planned outlet) [])
    (λ number link pin list. cond (link.from == node) (pin_items number pin (link.delay - 1) list) [])
    (λ number pin link hops there all. sender_is planned number pin link node hops all)
    ∙ listed_agree (λ number link. gather (λ pin. cond (link.from == node) (pin_items number pin (link.delay - 1) (users planned link pin)) []) link.width) (link_items planned node)
    (λ number link. gather_when (link.from == node) (λ pin. pin_items number pin (link.delay - 1) (users planned link pin)) link.width) 0 planned.board.links
