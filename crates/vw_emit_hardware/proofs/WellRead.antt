-- What each item of an emitted board locals_read is driven at its node, and has a smaller rank than what a table drives.
use Rattle.std.proofs.Common.{◌≡◌, ◌<◌, ◌≤◌, ◌+◌, ◌-◌, ◌&&◌, ◌==◌, ◌∙◌, inl, ℕ, zero, suc, Bool, true, false, cond, List, [], ◌∷◌, length, map, replicate, get_or, slice_get, Some, eqb, ap, refl, sym, subst, ⊎_elim, eqb-true, eq-eqb, arith}
use Rattle.std.specs.List.{AllByRecursion}
use Rattle.std.proofs.lemmas.Bool.{and_from, and_parts}
use Rattle.std.proofs.lemmas.List.Folds.{list_any_at}
use Rattle.std.proofs.lemmas.Option.{get_or_from_slice_get, none-some, same_Some, slice_get_within}
use Rattle.vw_net.specs.Order.{is_among}
use Rattle.vw_net.specs.declared.cell.Cell.TheVariants.{Gate, Latch}
use Rattle.vw_net.specs.declared.cell.Init.TheVariants.{Zero as StartsAtZero}
use Rattle.vw_net.specs.declared.cover.Cover.{Cover}
use Rattle.vw_net.specs.declared.cover.Mark.{Mark}
use Rattle.vw_net.specs.declared.cover.Mark.TheVariants.{Any}
use Rattle.vw_net.specs.declared.cover.Row.{Row}
use Rattle.vw_net.proofs.ListedLists.{StandsIn, stands_below}
use Rattle.vw_plan.specs.Lead.{arrival, carries}
use Rattle.vw_plan.specs.PlannedBoard.{PlannedBoard}
use Rattle.vw_plan.specs.Sound.{IsSound}
use Rattle.vw_plan.specs.declared.link.Link.{Link}
use Rattle.vw_plan.specs.declared.wire.Hop.{Hop}
use Rattle.vw_plan.specs.declared.wire.Wire.{Wire}
use Rattle.vw_plan.proofs.HopLinks.{hop_facts, one_link}
use Rattle.vw_plan.proofs.HopsOfWires.{at_place, begins}
use Rattle.vw_plan.proofs.NeededWires.{output_own_or_brought, wires_fine}
use Rattle.vw_plan.proofs.WireEnds.{hop_before}
use Rattle.vw_emit_hardware.specs.Driven.{IsDriven, by_item, by_pin, rank}
use Rattle.vw_emit_hardware.specs.Items.{User, delay_item, late_name, leaves_by, send_item, users}
use Rattle.vw_emit_hardware.specs.Locals.{Local, LocalItem, caught, coming, drives, gate, held, kept, locals_read, register, sent, table}
use Rattle.vw_emit_hardware.specs.Run.{IsItem}
use Rattle.vw_emit_hardware.specs.Names.{name_at, sent_name}
use Rattle.vw_emit_hardware.specs.Tables.{cover_table, cover_marks, off_table}
use Rattle.vw_emit_hardware.proofs.DrivenNets.{gate_rank, held_driven, name_driven, name_rank, stage_driven}
use Rattle.vw_emit_hardware.proofs.FewUsers.{few_users}
use Rattle.vw_emit_hardware.proofs.Members.{has_catch_table, has_delay, has_latch_register, has_latch_table, has_send}
use Rattle.vw_emit_hardware.proofs.Nets.{IsThere, net_count, read_is_there}
use Rattle.vw_emit_hardware.proofs.Origins.{IsCatch, IsGate, IsLatch, IsPin, IsResult, OfPin, Origin, catch_table, latch_table, leaves, of_first, of_gate, of_hop, of_latch, of_pins, of_result, of_stage, sends, waits, origin}
use Rattle.vw_emit_hardware.proofs.Users.{has_users, user_hop}

-- ---- tables of gates are tables

pub record IsTable (ins : List Local) (out : Local) (item : LocalItem) : Type 0 where
  pub on : Bool
  pub marks : List (List Mark)
  pub same : item ≡ table ins out on marks

pub gate_is_table : (ins : List Local) (out : Local) (cover : Cover) → IsTable ins out (cover_table ins out cover)
gate_is_table ins out cover = by cover.on cover.inputs cover.rows where
  by : (on : Bool) (inputs : ℕ) (rows : List Row) → IsTable ins out (cond on (table ins out true (cover_marks rows)) (off_table ins out inputs rows))
  by true inputs rows = record { on = true; marks = cover_marks rows; same = refl }
  by false inputs [] = record { on = true; marks = replicate inputs Any ∷ []; same = refl }
  by false inputs (row ∷ rows) = record { on = false; marks = cover_marks (row ∷ rows); same = refl }

-- a hop leaves by its own link and pin in its own microcycle
own_leaves : (hop : Hop) (link : Link) → carries hop link ≡ true → leaves_by link hop.pin hop.at hop ≡ true
own_leaves hop link carried = and_from (carries hop link) (hop.pin == hop.pin && hop.at == hop.at) carried (and_from (hop.pin == hop.pin) (hop.at == hop.at) (eq-eqb hop.pin hop.pin refl) (eq-eqb hop.at hop.at refl))

all_mapped : {A B : Type 0} (P : B → Type 0) (f : A → B) (xs : List A)
    → ((place : ℕ) (default : A) → place < length xs → P (f (get_or xs place default))) → AllByRecursion P (map f xs)
all_mapped P f [] each = tt
all_mapped P f (x ∷ xs) each = (each 0 x (omega arith), all_mapped P f xs (λ place default below. each (suc place) default (omega (arith, below))))

module _ (planned : PlannedBoard) (sound : IsSound planned) (node : ℕ) (among : node ≤ planned.board.chips) where
  -- a table drives what has a greater rank
  abbrev pub Rises : LocalItem → Local → Type 0
  Rises (table ins out on rows) read = rank planned read < rank planned out
  Rises (register next own init) read = Unit {0}

  -- an item locals_read well what is driven and of a smaller rank
  abbrev pub ReadsWell : LocalItem → Local → Type 0
  ReadsWell item read = IsDriven planned node read × Rises item read

  abbrev pub IsWellRead : LocalItem → Type 0
  IsWellRead item = AllByRecursion (ReadsWell item) (locals_read item)

  of_a_gate : (item : LocalItem) → IsGate planned node item → IsWellRead item
  of_a_gate item is =
      let names = map (name_at planned node) is.ins in
      let own = gate_is_table names (gate is.cell) is.cover in
      subst IsWellRead (sym own.same ∙ is.same) (all_mapped (ReadsWell (table names (gate is.cell) own.on own.marks)) (name_at planned node) is.ins (λ place default below.
      let net = get_or is.ins place default in
      let there = read_is_there planned sound is.cell (Gate is.ins is.cover) is.at place default below in
      let here = subst (IsThere planned net) is.chip there.1 in
      (name_driven planned sound net node there.0 here, gate_rank planned sound is.cell is.ins is.cover is.at node place default below there.0 here)))

  of_a_latch : (item : LocalItem) → IsLatch planned node item → IsWellRead item
  of_a_latch item is =
      let there = read_is_there planned sound is.cell (Latch is.d is.init) is.at 0 is.d (omega arith) in
      let here = subst (IsThere planned is.d) is.chip there.1 in
      let few = name_rank planned sound is.d node there.0 here in
      let kept_driven : IsDriven planned node (kept is.cell) = by_item (register (coming is.cell) (kept is.cell) is.init) (has_latch_register planned node among is.cell is.d is.init is.at is.chip) refl in
      let in_table = λ (same : latch_table planned node is.cell is.d ≡ item).
      let whole : IsWellRead item = subst IsWellRead same ((stage_driven planned sound node planned.plan.period among (omega arith), omega arith), ((name_driven planned sound is.d node there.0 here, omega (arith, few)), ((kept_driven, omega arith), tt))) in whole in
      let in_register = λ (same : register (coming is.cell) (kept is.cell) is.init ≡ item).
      let whole : IsWellRead item = subst IsWellRead same ((by_item (latch_table planned node is.cell is.d) (has_latch_table planned node among is.cell is.d is.init is.at is.chip) refl, tt), tt) in whole in
      ⊎_elim in_table in_register is.same

  of_a_hop : (item : LocalItem) → IsCatch planned node item → IsWellRead item
  of_a_hop item is =
      let facts = hop_facts planned sound is.wire is.place is.is is.hop is.there is.stands in
      let over = facts.over in
      let arrived = facts.within in
      let number = one_link planned.board is.hop over is.at is.link is.linked is.carried in
      let same_link : is.link ≡ over.link = same_Some is.link over.link (sym is.linked ∙ ap (slice_get planned.board.links) number ∙ over.there) in
      let to : is.link.to ≡ node = ap (λ (l : Link). l.to) same_link ∙ over.to ∙ is.reaches in
      let within : is.hop.pin < is.link.width = subst (λ (l : Link). is.hop.pin < l.width) (sym same_link) over.pin in
      let some = has_users planned is.link is.hop.pin is.wire is.place is.is is.hop is.there is.stands facts.sent (own_leaves is.hop is.link is.carried) in
      let held_here : IsDriven planned node (held is.wire is.place) = subst (λ (n : ℕ). IsDriven planned n (held is.wire is.place)) is.reaches (held_driven planned sound is.wire is.place is.is is.hop is.there is.stands).1 in
      let in_table = λ (same : catch_table planned node is.wire is.place is.hop is.at ≡ item).
      let whole : IsWellRead item = subst IsWellRead same (
        (stage_driven planned sound node (arrival planned.board.links is.hop) among (omega (arith, arrived)), omega arith),
        ((by_pin is.at is.hop.pin is.link is.linked to (record { within = within; some = some }) refl, omega arith), ((held_here, omega arith), tt)),
      ) in whole in
      let in_register = λ (same : register (caught is.wire is.place) (held is.wire is.place) StartsAtZero ≡ item).
      let whole : IsWellRead item = subst IsWellRead same ((by_item (catch_table planned node is.wire is.place is.hop is.at) (has_catch_table planned node among is.wire is.place is.is is.hop is.there is.stands is.reaches is.at is.link is.linked is.carried) refl, tt), tt) in whole in
      ⊎_elim in_table in_register is.same

  -- what a user sends is driven, with a small rank
  user_driven : (pin : ℕ) (link : Link) → link.from ≡ node → (user : User) → StandsIn user (users planned link pin)
      → (user.at < planned.plan.period) × IsDriven planned node user.name × (rank planned user.name ≤ length planned.ordered.order + 1)
  user_driven pin link from user standing =
      let own = user_hop planned link pin user standing in
      let parts = and_parts (carries own.hop link) (own.hop.pin == pin && own.hop.at == user.at) own.leaves in
      let slot = and_parts (own.hop.pin == pin) (own.hop.at == user.at) parts.1 in
      let sent_in = (hop_facts planned sound own.wire own.place own.is own.hop own.there own.stands).sent in
      let time = eqb-true own.hop.at user.at slot.1 in
      let here : own.hop.from ≡ node = sym (eqb-true link.from own.hop.from (and_parts (link.from == own.hop.from) (link.to == own.hop.to) parts.0).0) ∙ from in
      let name = by own.wire own.place own.is own.hop own.there own.stands here in
      (omega (arith, sent_in, time), subst (IsDriven planned node) (sym own.named) name.0, subst (λ (n : Local). rank planned n ≤ length planned.ordered.order + 1) (sym own.named) name.1) where
        by : (wire place : ℕ) (is : Wire) (hop : Hop) → slice_get planned.plan.wires wire ≡ Some is → slice_get is.hops place ≡ Some hop → hop.from ≡ node
            → IsDriven planned node (sent_name planned wire is place hop) × (rank planned (sent_name planned wire is place hop) ≤ length planned.ordered.order + 1)
        by wire zero is hop there stands here =
            let first = begins planned sound wire is there hop stands in
            let small = at_place (λ (one : Wire). one.net < net_count planned) planned.plan.wires wire is (wires_fine planned sound) there in
            let home_is : IsThere planned is.net hop.from = inl (sym first.from) in
            (subst (λ (n : ℕ). IsDriven planned n (name_at planned hop.from is.net)) here (name_driven planned sound is.net hop.from small home_is), name_rank planned sound is.net hop.from small home_is)
        by wire (suc before) is hop there stands here =
            let one : before + 1 ≡ suc before = omega arith in
            let earlier = hop_before planned sound wire is there before hop (ap (slice_get is.hops) one ∙ stands) in
            (subst (λ (n : ℕ). IsDriven planned n (held wire before)) (sym earlier.goes_on.from ∙ here) (held_driven planned sound wire before is earlier.hop there earlier.at).1, omega arith)

  of_a_pin : (item : LocalItem) → IsPin planned node item → IsWellRead item
  of_a_pin item is = by is.item_is where
    few : suc (length is.others) ≤ planned.plan.period
    few = let whole = few_users planned sound is.link is.pin in let long = ap length is.used in omega (arith, whole, long)

    one_driven : (number : ℕ) (one : User) → slice_get (is.user ∷ is.others) number ≡ Some one
        → (one.at < planned.plan.period) × IsDriven planned node one.name × (rank planned one.name ≤ length planned.ordered.order + 1)
    one_driven number one at = user_driven is.pin is.link is.from one (number, ap (λ (all : List User). slice_get all number) is.used ∙ at)

    drives_sent : (number : ℕ) (one : User) → drives (send_item is.at is.pin number one) ≡ sent is.at is.pin number
    drives_sent zero one = refl
    drives_sent (suc before) one = refl

    sent_driven : (number : ℕ) → number < suc (length is.others) → IsDriven planned node (sent is.at is.pin number)
    sent_driven number below =
        let one = stands_below (is.user ∷ is.others) number below in
        by_item (send_item is.at is.pin number one.0) (has_send planned node among is.at is.pin is.link is.linked is.from is.within is.user is.others is.used number one.0 one.1) (drives_sent number one.0)

    late_driven : (later : ℕ) → later ≤ is.link.delay - 1
        → IsDriven planned node (late_name is.at is.pin (length is.others) later) × (rank planned (late_name is.at is.pin (length is.others) later) ≤ length planned.ordered.order + 2 + length is.others)
    late_driven zero below = (sent_driven (length is.others) (omega arith), omega arith)
    late_driven (suc before) below = (by_item (delay_item is.at is.pin (length is.others) before) (has_delay planned node among is.at is.pin is.link is.linked is.from is.within is.user is.others is.used before (omega (arith, below))) refl, omega arith)

    sends_well : (number : ℕ) (one : User) → slice_get (is.user ∷ is.others) number ≡ Some one → IsWellRead (send_item is.at is.pin number one)
    sends_well zero one at =
        let own = one_driven 0 one at in
        ((stage_driven planned sound node one.at among (omega (arith, own.0)), omega arith), ((own.1, omega (arith, own.2)), tt))
    sends_well (suc before) one at =
        let own = one_driven (suc before) one at in
        let inside = slice_get_within (is.user ∷ is.others) (suc before) one at in
        ((stage_driven planned sound node one.at among (omega (arith, own.0)), omega arith), ((own.1, omega (arith, own.2)), ((sent_driven before (omega (arith, inside)), omega arith), tt)))

    by : OfPin planned node is.at is.pin (is.link.delay - 1) is.user is.others item → IsWellRead item
    by (sends number one at same) = subst IsWellRead same (sends_well number one at)
    by (waits later below same) = subst IsWellRead same (((late_driven later (omega (arith, below))).0, tt), tt)
    by (leaves same) = let own = late_driven (is.link.delay - 1) (omega arith) in subst IsWellRead same ((own.0, omega (arith, own.1, few)), tt)

  of_a_result : (item : LocalItem) → IsResult planned node item → IsWellRead item
  of_a_result item is =
      let outputs = planned.ordered.flat.outputs in
      let small = at_place (λ (one : ℕ). one < net_count planned) outputs is.output is.net planned.ordered.flat.outputs_fit is.at in
      let own : eqb (get_or outputs is.output is.net) is.net ≡ true = eq-eqb (get_or outputs is.output is.net) is.net (get_or_from_slice_get outputs is.output is.net is.net is.at) in
      let shown : is_among outputs is.net ≡ true = list_any_at (λ (other : ℕ). eqb other is.net) outputs is.output is.net (slice_get_within outputs is.output is.net is.at) own in
      let there = output_own_or_brought planned sound is.net shown in
      let few = name_rank planned sound is.net 0 small there in
      subst IsWellRead is.same ((subst (λ (n : ℕ). IsDriven planned n (name_at planned 0 is.net)) (sym is.host) (name_driven planned sound is.net 0 small there), omega (arith, few)), tt)

  -- so each item does
  pub well_read : (item : LocalItem) → Origin planned node item → IsWellRead item
  well_read item (of_first same) = subst IsWellRead same ((stage_driven planned sound node planned.plan.period among (omega arith), tt), tt)
  well_read item (of_stage is) = let below = is.below in subst IsWellRead is.same ((stage_driven planned sound node is.before among (omega (arith, below)), tt), tt)
  well_read item (of_gate is) = of_a_gate item is
  well_read item (of_latch is) = of_a_latch item is
  well_read item (of_hop is) = of_a_hop item is
  well_read item (of_pins is) = of_a_pin item is
  well_read item (of_result is) = of_a_result item is

-- ---- item by item

all_at : {A : Type 0} (P : A → Type 0) (xs : List A) → AllByRecursion P xs → (place : ℕ) (x : A) → slice_get xs place ≡ Some x → P x
all_at P [] all place x at = absurd (none-some x at)
all_at P (y ∷ xs) all zero x at = subst P (same_Some y x at) all.0
all_at P (y ∷ xs) all (suc place) x at = all_at P xs all.1 place x at

module _ (planned : PlannedBoard) (node place : ℕ) (item : LocalItem) (read : Local) (sound : IsSound planned) (is : IsItem planned node item) (at : slice_get (locals_read item) place ≡ Some read) where
  reads_well : ReadsWell planned sound node is.among item read
  reads_well = all_at (ReadsWell planned sound node is.among item) (locals_read item) (well_read planned sound node is.among item (origin planned node item (is.place, is.stands))) place read at

  pub read_driven : IsDriven planned node read
  read_driven = reads_well.0

pub read_rises : (planned : PlannedBoard) (node place : ℕ) (ins : List Local) (out : Local) (on : Bool) (rows : List (List Mark)) (read : Local)
    → IsSound planned → IsItem planned node (table ins out on rows) → slice_get ins place ≡ Some read
    → rank planned read < rank planned out
read_rises planned node place ins out on rows read sound is at = (reads_well planned node place (table ins out on rows) read sound is at).1
