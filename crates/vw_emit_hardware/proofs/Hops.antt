-- The heart: in each microcycle of a clock, the register of each hop that has arrived has the value of its wire's net.
use Rattle.std.proofs.Common.{◌≡◌, ◌<◌, ◌≤◌, ◌+◌, ◌-◌, ◌&&◌, ◌==◌, ◌∙◌, inl, ℕ, zero, suc, Bool, true, false, cond, List, [], ◌∷◌, length, slice_get, Some, eqb, ap, ap₂, refl, sym, subst, ⊎_elim, eqb-true, eq-eqb, ne_eqb, arith}
use Rattle.std.specs.List.{list_any}
use Rattle.std.proofs.lemmas.Bool.{and_from, and_parts, cases_eq, cases_lt}
use Rattle.vw_net.proofs.ListedLists.{StandsIn}
use Rattle.vw_plan.specs.Lead.{arrival, carries, usable}
use Rattle.vw_plan.specs.PlannedBoard.{PlannedBoard}
use Rattle.vw_plan.specs.Sound.{IsSound}
use Rattle.vw_plan.specs.declared.link.Link.{Link}
use Rattle.vw_plan.specs.declared.wire.Hop.{Hop}
use Rattle.vw_plan.specs.declared.wire.Wire.{Wire}
use Rattle.vw_plan.proofs.HopLinks.{HopFacts, hop_facts}
use Rattle.vw_plan.proofs.HopsOfWires.{at_place, begins}
use Rattle.vw_plan.proofs.NeededWires.{wires_fine}
use Rattle.vw_plan.proofs.WireEnds.{hop_before}
use Rattle.vw_emit_hardware.specs.Items.{User, late_name, leaves_by, users}
use Rattle.vw_emit_hardware.specs.Locals.{held, moment, pin_in}
use Rattle.vw_emit_hardware.specs.Names.{sent_name}
use Rattle.vw_emit_hardware.specs.Run.{IsRun, Values}
use Rattle.vw_emit_hardware.proofs.Clocks.{IsClock, stage_is, within}
use Rattle.vw_emit_hardware.proofs.Equations.{hop_bit, late_bit, out_bit, sent_bit}
use Rattle.vw_emit_hardware.proofs.Nets.{AreHeld, bit, net_count, net_is}
use Rattle.vw_emit_hardware.proofs.Users.{decided, has_users, is_user, one_sends, user_hop, user_of}

-- a list that isn't empty
pub record HasFirst {X : Type 0} (xs : List X) : Type 0 where
  pub first : X
  pub others : List X
  pub is : xs ≡ first ∷ others

has_first : {X : Type 0} (xs : List X) → 0 < length xs → HasFirst xs
has_first [] some = absurd (omega (arith, some))
has_first (x ∷ xs) some = record { first = x; others = xs; is = refl }

-- a hop leaves by its own link and pin in its own microcycle
leaves_own : (hop : Hop) (link : Link) → carries hop link ≡ true → leaves_by link hop.pin hop.at hop ≡ true
leaves_own hop link carried = and_from (carries hop link) (hop.pin == hop.pin && hop.at == hop.at) carried (and_from (hop.pin == hop.pin) (hop.at == hop.at) (eq-eqb hop.pin hop.pin refl) (eq-eqb hop.at hop.at refl))

module _ (planned : PlannedBoard) (sound : IsSound planned) (unknown : Bool) (rows : List (List Bool)) (value : Values) (run : IsRun planned unknown rows value)
    (start : ℕ) (row state : List Bool) (clock : IsClock planned rows value start row state) where
  -- the value of a net in this clock
  abbrev own_bit : ℕ → Bool
  own_bit = bit planned sound unknown rows value run start row state clock

  abbrev pub HaveCome : ℕ → Type 0
  HaveCome = AreHeld planned sound unknown rows value run start row state clock

  module _ (wire place : ℕ) (is : Wire) (hop : Hop) (there : slice_get planned.plan.wires wire ≡ Some is) (stands : slice_get is.hops place ≡ Some hop) where
    pub facts : HopFacts planned hop
    facts = hop_facts planned sound wire place is hop there stands

    -- a hop sends the value of its wire's net, if what has arrived before it has been kept
    sends : HaveCome hop.at → value (start + hop.at) hop.from (sent_name planned wire is place hop) ≡ own_bit is.net
    sends come = by place stands where
      by : (k : ℕ) → slice_get is.hops k ≡ Some hop → value (start + hop.at) hop.from (sent_name planned wire is k hop) ≡ own_bit is.net
      by zero at =
          let first = begins planned sound wire is there hop at in
          let small = at_place (λ (one : Wire). one.net < net_count planned) planned.plan.wires wire is (wires_fine planned sound) there in
          let ready = subst (λ (node : ℕ). usable_from node) (sym first.from) first.ready in
          let sent = facts.sent in
          net_is planned sound unknown rows value run start row state clock hop.at (omega (arith, sent)) come is.net hop.from small (inl (sym first.from)) (omega (arith, ready)) where
            usable_from : ℕ → Type 0
            usable_from node = usable planned node is.net ≤ hop.at
      by (suc before) at =
          let one : before + 1 ≡ suc before = omega arith in
          let earlier = hop_before planned sound wire is there before hop (ap (slice_get is.hops) one ∙ at) in
          ap (λ (node : ℕ). value (start + hop.at) node (held wire before)) earlier.goes_on.from
          ∙ come wire before is earlier.hop there earlier.at earlier.goes_on.later

    -- the link over which it goes, and the pin's users
    abbrev pub link : Link
    link = facts.over.link

    abbrev pub all_users : List User
    all_users = users planned link hop.pin

    leaves : leaves_by link hop.pin hop.at hop ≡ true
    leaves = leaves_own hop link facts.over.carried

    some : 0 < length all_users
    some = has_users planned link hop.pin wire place is hop there stands facts.sent leaves

    pub split : HasFirst all_users
    split = has_first all_users some

    ends_are_nodes : (link.from ≤ planned.board.chips) × (link.to ≤ planned.board.chips)
    ends_are_nodes = at_place (λ (one : Link). (one.from ≤ planned.board.chips) × (one.to ≤ planned.board.chips)) planned.board.links facts.over.number link planned.board.linked.separate.ends facts.over.there

    -- in its microcycle its stage alone is 1 among those of the users
    goes : User → Bool
    goes user = value (start + hop.at) link.from (moment user.at) && value (start + hop.at) link.from user.name

    user_stage : (at : ℕ) → at < planned.plan.period → value (start + hop.at) link.from (moment at) ≡ eqb hop.at at
    user_stage at below = let sent_in = facts.sent in stage_is planned sound unknown rows value run start row state clock hop.at link.from at (omega (arith, sent_in)) ends_are_nodes.0 (omega (arith, below))

    own_value : HaveCome hop.at → value (start + hop.at) link.from (sent_name planned wire is place hop) ≡ own_bit is.net
    own_value come = ap (λ (node : ℕ). value (start + hop.at) node (sent_name planned wire is place hop)) facts.over.from ∙ sends come

    own_goes : HaveCome hop.at → goes (user_of planned link hop.pin wire is place hop.at hop) ≡ own_bit is.net
    unfolding goes
    own_goes come = ap₂ (λ (x y : Bool). x && y) (user_stage hop.at facts.sent ∙ eq-eqb hop.at hop.at refl) (own_value come)

    -- so no other user's bit goes out
    goes_alone : HaveCome hop.at → (user : User) → StandsIn user all_users → goes user ≡ true → own_bit is.net ≡ true
    unfolding goes
    goes_alone come user standing passes =
        let its = user_hop planned link hop.pin user standing in
        let parts = and_parts (value (start + hop.at) link.from (moment user.at)) (value (start + hop.at) link.from user.name) passes in
        let slot = and_parts (its.hop.pin == hop.pin) (its.hop.at == user.at) (and_parts (carries its.hop link) (its.hop.pin == hop.pin && its.hop.at == user.at) its.leaves).1 in
        let its_time : its.hop.at ≡ user.at = eqb-true its.hop.at user.at slot.1 in
        let its_sent = (hop_facts planned sound its.wire its.place its.is its.hop its.there its.stands).sent in
        let same : hop.at ≡ user.at = eqb-true hop.at user.at (sym (user_stage user.at (omega (arith, its_sent, its_time))) ∙ parts.0) in
        let name = one_sends planned link hop.pin sound wire place is hop there stands leaves user standing (sym same) in
        sym (own_value come) ∙ ap (value (start + hop.at) link.from) (sym name) ∙ parts.1

    -- and the hop's goes out
    chosen : HaveCome hop.at → list_any goes (split.first ∷ split.others) ≡ own_bit is.net
    chosen come =
        ap (list_any goes) (sym split.is)
        ∙ decided goes all_users (user_of planned link hop.pin wire is place hop.at hop) (own_bit is.net) (is_user planned link hop.pin wire place is hop there stands facts.sent leaves) (own_goes come) (goes_alone come)

    -- while it is under way it is in the registers of its pin
    pub under_way : HaveCome hop.at → (later : ℕ) → later ≤ link.delay - 1
        → value (start + (hop.at + later)) link.from (late_name facts.over.number hop.pin (length split.others) later) ≡ own_bit is.net
    unfolding goes
    under_way come later below =
        let sent_in = facts.sent in
        let arrived_in = facts.within in
        let inside = within planned sound unknown rows value run start row state clock (hop.at + later) (omega (arith, below, arrived_in, facts.over.lags)) in
        let time : later + (start + hop.at) ≡ start + (hop.at + later) = omega arith in
        let pin = late_bit planned unknown rows value run link.from ends_are_nodes.0 facts.over.number hop.pin link facts.over.there refl facts.over.pin split.first split.others split.is (start + hop.at) later below (subst (λ (when : ℕ). when < length rows) (sym time) inside) in
        let goes_out = sent_bit planned unknown rows value run link.from ends_are_nodes.0 facts.over.number hop.pin link facts.over.there refl facts.over.pin split.first split.others split.is (start + hop.at) (within planned sound unknown rows value run start row state clock hop.at (omega (arith, sent_in))) in
        ap (λ (when : ℕ). value when link.from (late_name facts.over.number hop.pin (length split.others) later)) (sym time) ∙ pin ∙ goes_out ∙ chosen come

    -- the pin by which it arrives has that value in the microcycle of its arrival
    arrives : HaveCome hop.at → value (start + arrival planned.board.links hop) hop.to (pin_in facts.over.number hop.pin) ≡ own_bit is.net
    arrives come =
        let arrived_in = facts.within in
        let now = start + arrival planned.board.links hop in
        let inside : now < length rows = within planned sound unknown rows value run start row state clock (arrival planned.board.links hop) (omega (arith, arrived_in)) in
        let late : hop.at + (link.delay - 1) ≡ arrival planned.board.links hop = omega (arith, facts.over.lags) in
        let out = out_bit planned unknown rows value run link.from ends_are_nodes.0 facts.over.number hop.pin link facts.over.there refl facts.over.pin split.first split.others split.is now inside in
        ap (λ (node : ℕ). value now node (pin_in facts.over.number hop.pin)) (sym facts.over.to)
        ∙ run.pins now facts.over.number hop.pin link inside facts.over.there (record { within = facts.over.pin; some = some })
        ∙ out ∙ ap (λ (microcycle : ℕ). value (start + microcycle) link.from (late_name facts.over.number hop.pin (length split.others) (link.delay - 1))) (sym late)
        ∙ under_way come (link.delay - 1) (omega arith)

    -- so its register has that value in the next microcycle, and keeps it
    next_held : (microcycle : ℕ) → suc microcycle ≤ planned.plan.period → ((earlier : ℕ) → earlier ≤ microcycle → HaveCome earlier)
        → arrival planned.board.links hop ≤ microcycle
        → value (start + suc microcycle) hop.to (held wire place) ≡ own_bit is.net
    next_held microcycle early come arrived =
        let over = facts.over in
        let arrived_in = facts.within in
        let among : hop.to ≤ planned.board.chips = subst (λ (node : ℕ). node ≤ planned.board.chips) over.to (at_place (λ (one : Link). (one.from ≤ planned.board.chips) × (one.to ≤ planned.board.chips)) planned.board.links over.number over.link planned.board.linked.separate.ends over.there).1 in
        let next : start + suc microcycle ≡ suc (start + microcycle) = omega arith in
        let inside = within planned sound unknown rows value run start row state clock (suc microcycle) early in
        let time = start + microcycle in
        let stage = stage_is planned sound unknown rows value run start row state clock microcycle hop.to (arrival planned.board.links hop) (omega (arith, early)) among (omega (arith, arrived_in)) in
        let step = ap (λ (when : ℕ). value when hop.to (held wire place)) next
        ∙ hop_bit planned unknown rows value run hop.to among wire place is hop there stands refl over.number over.link over.there over.carried time (omega (arith, inside)) in
        let if_now = λ (now : microcycle ≡ arrival planned.board.links hop).
        let test : value time hop.to (moment (arrival planned.board.links hop)) ≡ true = stage ∙ eq-eqb microcycle (arrival planned.board.links hop) now in
        step ∙ ap (λ (b : Bool). cond b (value time hop.to (pin_in over.number hop.pin)) (value time hop.to (held wire place))) test
        ∙ ap (λ (m : ℕ). value (start + m) hop.to (pin_in over.number hop.pin)) now ∙ arrives (come hop.at (omega (arith, now))) in
        let if_before = λ (other : ¬ (microcycle ≡ arrival planned.board.links hop)).
        let test : value time hop.to (moment (arrival planned.board.links hop)) ≡ false = stage ∙ ne_eqb microcycle (arrival planned.board.links hop) other in
        step ∙ ap (λ (b : Bool). cond b (value time hop.to (pin_in over.number hop.pin)) (value time hop.to (held wire place))) test
        ∙ come microcycle (omega arith) wire place is hop there stands (omega (arith, arrived, other)) in
        ⊎_elim if_now if_before (cases_eq microcycle (arrival planned.board.links hop))

  -- up to a microcycle, all that has arrived is held
  come_upto : (microcycle : ℕ) → microcycle ≤ planned.plan.period → (earlier : ℕ) → earlier ≤ microcycle → HaveCome earlier
  come_upto zero early earlier upto = λ wire place is hop there stands arrived. absurd (omega (arith, arrived, upto))
  come_upto (suc microcycle) early earlier upto =
      let before = come_upto microcycle (omega (arith, early)) in
      let if_before = λ (less : earlier < suc microcycle). before earlier (omega (arith, less)) in
      let if_now = λ (more : suc microcycle ≤ earlier).
      let same : earlier ≡ suc microcycle = omega (arith, more, upto) in
      subst HaveCome (sym same) (λ wire place is hop there stands arrived. next_held wire place is hop there stands microcycle early before (omega (arith, arrived))) in
      ⊎_elim if_before if_now (cases_lt earlier (suc microcycle))

  -- in each microcycle
  pub have_come : (microcycle : ℕ) → microcycle ≤ planned.plan.period → HaveCome microcycle
  have_come microcycle early = come_upto microcycle early microcycle (omega arith)
