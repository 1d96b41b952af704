-- Each entry of a sound plan finds what it nets_read due, and so does the step of each node.
use Rattle.std.proofs.Common.{◌≡◌, ◌≢◌, ◌<◌, ◌≤◌, ◌+◌, ◌-◌, ◌*◌, ◌%◌, ◌&&◌, ◌||◌, ℕ, zero, suc, Bool, true, false, not, List, [], ◌∷◌, length, take, get_or, eqb, nat_lt, slice_get, slice_index, Option, Some, None, if◌then◌else◌, inl, inr, ◌⊎◌, ap, ap₂, refl, sym, ◌∙◌, subst, ⊎_elim, true≢false, eqb-true, eq-eqb, le-ltb, All, arith}
use Rattle.std.specs.List.{AllByRecursion, list_any, list_all, range_with_len}
use Rattle.std.proofs.lemmas.Bool.{and_from, and_parts, cases_Bool, cases_lt, ltb-false, ne_eqb, or_cases, or_left, or_right}
use Rattle.std.proofs.lemmas.List.{get_or-take, length-take}
use Rattle.std.proofs.lemmas.List.Elements.{filter_passes, recursion_from_All}
use Rattle.std.proofs.lemmas.List.Sums.{AllPass-from_list_all}
use Rattle.std.proofs.lemmas.Option.{get_or_from_slice_get, slice_get-get_or, slice_get_within}
use Rattle.vw_net.specs.declared.cell.Cell.{Cell}
use Rattle.vw_net.specs.declared.cell.Cell.TheVariants.{Gate, Latch}
use Rattle.vw_net.specs.declared.cell.Init.{Init}
use Rattle.vw_net.specs.Cells.{IsWellFormed, read_nets}
use Rattle.vw_net.specs.Order.{gate_inputs, is_among, is_latch, is_ready, read_nets_at}
use Rattle.vw_net.proofs.Orders.{among_at, among_below, at_among}
use Rattle.vw_net.proofs.ReadyNets.{order_within}
use Rattle.vw_plan.specs.declared.wire.Hop.{Hop}
use Rattle.vw_plan.specs.declared.wire.Wire.{Wire}
use Rattle.vw_plan.specs.Lead.{arrival, brought_at, lead}
use Rattle.vw_plan.specs.Nets.{driving_cell, greatest_read, is_needed, is_read_at}
use Rattle.vw_plan.specs.PlannedBoard.{PlannedBoard, home}
use Rattle.vw_plan.specs.Sound.{IsSound}
use Rattle.vw_plan.proofs.GreatestReads.{greatest_read-least}
use Rattle.vw_plan.proofs.HopsOfWires.{begins, goes_on}
use Rattle.vw_plan.proofs.LeadLevels.{lead-by_driver}
use Rattle.vw_plan.proofs.ReadNets.{read_needed}
use Rattle.vw_prog.specs.declared.entry.Entry.{Entry}
use Rattle.vw_prog.specs.Due.{FindsEnds, FindsReads, settles_net, is_due, is_source, own_latches, nets_read}
use Rattle.vw_prog.specs.Timetable.{comes_before, entries, entries_at, gate_entries, gate_entry, hop_entries, is_at, is_sending, sent_entry, taken_entry, timetable, wire_entries}
use Rattle.vw_prog.proofs.EntryOrder.{by_moment, by_place, is_order}
use Rattle.vw_prog.proofs.Givers.{Giver, evaluating_gives, gate_is_entry, needed_gives, own_given, taken_is_entry, taking_gives}
use Rattle.vw_net.proofs.ListParts.{all_append, all_at, all_flat_map, any_part, any_weaker}
use Rattle.vw_plan.proofs.NeededWires.{wires_fine}
use Rattle.vw_net.proofs.SortedLists.{Rises, all_filter, all_sorted, any_sorted, part_rises, stands_before}

other : (number rest own : ℕ) → rest ≡ own → own ≢ number → eqb rest number ≡ false
other number rest own is apart = ne_eqb rest number (λ same. apart (sym is ∙ same))

module _ (planned : PlannedBoard) (sound : IsSound planned) where
  abbrev inputs : ℕ
  inputs = planned.ordered.flat.inputs

  abbrev cells : List Cell
  cells = planned.ordered.flat.cells

  abbrev order : List ℕ
  order = planned.ordered.order

  -- an entry that settles_net the net stands before another one of its node
  abbrev GivenBefore : Entry → ℕ → Type 0
  GivenBefore entry net = (giver : Giver planned entry.node net) × (comes_before giver.entry entry ≡ true)

  -- what a net that is read needs to be: an input or a latch of the node, or given before
  abbrev IsFound : Entry → ℕ → Type 0
  IsFound entry net = (is_source planned entry.node net ≡ true) ⊎ GivenBefore entry net

  -- ---- what a gate nets_read

  module _ (place number : ℕ) (at : slice_get order place ≡ Some number) where
    abbrev net : ℕ
    net = inputs + number

    abbrev own : Entry
    own = gate_entry planned place number

    within : place < length order
    within = slice_get_within order place number at

    here_at : get_or order place 0 ≡ number
    here_at = get_or_from_slice_get order place number 0 at

    low : number < length cells
    low = omega (arith, order_within planned.ordered.is_order place within, here_at)

    no_input : nat_lt net inputs ≡ false
    no_input = le-ltb net inputs (omega arith)

    its_number : net - inputs ≡ number
    its_number = omega arith

    its_cell : driving_cell planned.ordered.flat net ≡ slice_get cells number
    its_cell = ap (λ (input : Bool). if input then None else slice_get cells (net - inputs)) no_input ∙ ap (slice_get cells) its_number

    its_chip : home planned net ≡ slice_index planned.plan.chip_of number
    its_chip = ap (λ (input : Bool). if input then 0 else slice_index planned.plan.chip_of (net - inputs)) no_input ∙ ap (slice_index planned.plan.chip_of) its_number

    -- its lead is no less than that of what it nets_read
    reads_sooner : (read : ℕ) → is_among (gate_inputs (driving_cell planned.ordered.flat net)) read ≡ true
        → lead planned (home planned net) read ≤ lead planned (home planned net) net
    reads_sooner read among =
        let least = greatest_read-least (lead planned (home planned net)) (driving_cell planned.ordered.flat net) read among in
        let is : lead planned (home planned net) net ≡ greatest_read (lead planned (home planned net)) (driving_cell planned.ordered.flat net) =
        lead-by_driver planned (home planned net) net ∙ ap (λ (same : Bool). if same then greatest_read (lead planned (home planned net)) (driving_cell planned.ordered.flat net) else brought_at planned (home planned net) net) (eq-eqb (home planned net) (home planned net) refl) in
        omega (arith, least, is)

    gate_reads_nets : (cell : Option Cell) (read : ℕ) → is_among (gate_inputs cell) read ≡ true → is_among (read_nets_at cell) read ≡ true
    gate_reads_nets None read among = among
    gate_reads_nets (Some (Gate ins cover)) read among = among
    gate_reads_nets (Some (Latch d init)) read among = absurd (true≢false (sym among))

    -- a net of a gate that stands earlier in the order
    earlier_gate : (read : ℕ) → is_among (gate_inputs (driving_cell planned.ordered.flat net)) read ≡ true → inputs ≤ read
        → home planned read ≡ home planned net → is_among (take place order) (read - inputs) ≡ true → GivenBefore own read
    earlier_gate read among driven same before =
        let found = among_at (take place order) (read - inputs) before in
        let inside : found.0 < place = omega (arith, found.1, length-take place order) in
        let is : get_or order found.0 0 ≡ read - inputs = sym (get_or-take place order found.0 0 inside) ∙ found.2 in
        let there : slice_get order found.0 ≡ Some (read - inputs) = slice_get-get_or order found.0 0 (omega (arith, inside, within)) ∙ ap Some is in
        let back : inputs + (read - inputs) ≡ read = omega arith in
        let its_home : home planned (inputs + (read - inputs)) ≡ home planned net = ap (home planned) back ∙ same in
        let sooner : lead planned (home planned (inputs + (read - inputs))) (inputs + (read - inputs)) ≤ lead planned (home planned net) net = omega (arith, reads_sooner read among, ap₂ (λ (node one : ℕ). lead planned node one) its_home back) in
        let entry = gate_entry planned found.0 (read - inputs) in
        let giver : Giver planned (home planned net) read = record {
          entry = entry;
          is_entry = gate_is_entry planned found.0 (read - inputs) there;
          here = its_home;
          gives_net = evaluating_gives planned (lead planned (home planned (inputs + (read - inputs))) (inputs + (read - inputs))) (inputs + (read - inputs)) read back;
        } in
        let if_less = λ (less : entry.moment < own.moment). by_moment entry own less in
        let if_same = λ (past : own.moment ≤ entry.moment). by_place entry own (omega (arith, past, sooner)) refl inside in
        (giver, ⊎_elim if_less if_same (cases_lt entry.moment own.moment))

    -- a net of another node was taken before
    taken_before : (read : ℕ) → is_among (gate_inputs (driving_cell planned.ordered.flat net)) read ≡ true
        → is_needed planned.ordered.flat planned.plan.chip_of read (home planned net) ≡ true → GivenBefore own read
    taken_before read among needed =
        let given = needed_gives planned sound (home planned net) read needed in
        (given.0, by_moment given.0.entry own (omega (arith, given.1, reads_sooner read among)))

    gate_found : (read : ℕ) → is_among (gate_inputs (driving_cell planned.ordered.flat net)) read ≡ true → IsFound own read
    gate_found read among =
        let reads_at : is_among (read_nets_at (slice_get cells number)) read ≡ true = gate_reads_nets (slice_get cells number) read (ap (λ (cell : Option Cell). is_among (gate_inputs cell) read) (sym its_cell) ∙ among) in
        let ready = λ (one : ℕ). is_ready inputs cells (take place order) one in
        let all_read : list_all ready (read_nets_at (slice_get cells number)) ≡ true = ap (λ (one : ℕ). list_all ready (read_nets_at (slice_get cells one))) (sym here_at) ∙ planned.ordered.is_order.after place within in
        let at_read = among_at (read_nets_at (slice_get cells number)) read reads_at in
        let is_ready_read : ready read ≡ true = ap ready (sym at_read.2) ∙ AllPass-from_list_all ready (read_nets_at (slice_get cells number)) all_read at_read.0 0 at_read.1 in
        let if_own = λ (is : eqb (home planned read) (home planned net) ≡ true).
        let same : home planned read ≡ home planned net = eqb-true (home planned read) (home planned net) is in
        let source = λ (kind : (nat_lt read inputs || is_latch (driving_cell planned.ordered.flat read)) ≡ true). and_from (eqb (home planned read) (home planned net)) (nat_lt read inputs || is_latch (driving_cell planned.ordered.flat read)) is kind in
        let if_input = λ (input : nat_lt read inputs ≡ true). inl (source (or_left (nat_lt read inputs) (is_latch (driving_cell planned.ordered.flat read)) input)) in
        let if_cell = λ (no : nat_lt read inputs ≡ false).
        let driven : inputs ≤ read = ltb-false read inputs no in
        let cell : driving_cell planned.ordered.flat read ≡ slice_get cells (read - inputs) = ap (λ (input : Bool). if input then None else slice_get cells (read - inputs)) no in
        let rest : (is_latch (slice_get cells (read - inputs)) || is_among (take place order) (read - inputs)) ≡ true = ap (λ (input : Bool). input || (is_latch (slice_get cells (read - inputs)) || is_among (take place order) (read - inputs))) (sym no) ∙ is_ready_read in
        let if_latch = λ (latch : is_latch (slice_get cells (read - inputs)) ≡ true). inl (source (or_right (nat_lt read inputs) (is_latch (driving_cell planned.ordered.flat read)) (ap is_latch cell ∙ latch))) in
        let if_gate = λ (before : is_among (take place order) (read - inputs) ≡ true). inr (earlier_gate read among driven same before) in
        let whole : IsFound own read = ⊎_elim if_latch if_gate (or_cases (is_latch (slice_get cells (read - inputs))) (is_among (take place order) (read - inputs)) rest) in whole in
        let whole : IsFound own read = ⊎_elim if_input if_cell (cases_Bool (nat_lt read inputs)) in whole in
        let if_away = λ (away : eqb (home planned read) (home planned net) ≡ false).
        let needed = read_needed planned.ordered.flat planned.plan.chip_of number read sound.one_chip_each.each reads_at (ap (eqb (home planned read)) (sym its_chip) ∙ away) in
        let whole : IsFound own read = inr (taken_before read among (ap (λ (node : ℕ). is_needed planned.ordered.flat planned.plan.chip_of read node) its_chip ∙ needed)) in whole in
        ⊎_elim if_own if_away (cases_Bool (eqb (home planned read) (home planned net)))

  -- ---- what is sent

  module _ (number : ℕ) (wire : Wire) (there : slice_get planned.plan.wires number ≡ Some wire) where
    net_within : wire.net < inputs + length cells
    net_within = subst (λ (one : Wire). one.net < inputs + length cells) (get_or_from_slice_get planned.plan.wires number wire wire there) (wires_fine planned sound number wire (slice_get_within planned.plan.wires number wire there))

    sent_found : (place : ℕ) (hop : Hop) → slice_get wire.hops place ≡ Some hop → IsFound (sent_entry planned.board.links wire.net hop) wire.net
    sent_found zero hop is =
        let begin = begins planned sound number wire there hop is in
        let own = sent_entry planned.board.links wire.net hop in
        let given = own_given planned sound hop.from wire.net net_within (sym begin.from) in
        let early : lead planned hop.from wire.net ≤ hop.at = let same = ap (λ (node : ℕ). lead planned node wire.net) begin.from in omega (arith, begin.ready, same) in
        ⊎_elim (λ source. inl source) (λ (g : (giver : Giver planned hop.from wire.net) × (giver.entry.moment ≤ 3 * lead planned hop.from wire.net)). inr (g.0, by_moment g.0.entry own (omega (arith, g.1, early)))) given
    sent_found (suc place) hop is =
        let own = sent_entry planned.board.links wire.net hop in
        let none : Hop = record { from = 0; to = 0; pin = 0; at = 0 } in
        let before = get_or wire.hops place none in
        let at : slice_get wire.hops place ≡ Some before = slice_get-get_or wire.hops place none (omega (arith, slice_get_within wire.hops (suc place) hop is)) in
        let next : suc place ≡ place + 1 = omega arith in
        let goes = goes_on planned sound number wire there place before hop at (ap (slice_get wire.hops) (sym next) ∙ is) in
        let entry = taken_entry planned.board.links wire.net before in
        let giver : Giver planned hop.from wire.net = record {
          entry = entry;
          is_entry = taken_is_entry planned number place wire before there at;
          here = sym goes.from;
          gives_net = taking_gives planned (arrival planned.board.links before) wire.net wire.net refl;
        } in
        inr (giver, by_moment entry own (omega (arith, goes.later)))

  -- ---- each entry

  abbrev FindsAll : Entry → Type 0
  FindsAll entry = (net : ℕ) → is_among (nets_read planned entry) net ≡ true → IsFound entry net

  gate_finds : (place number : ℕ) → slice_get order place ≡ Some number → FindsAll (gate_entry planned place number)
  gate_finds place number at net among =
      let own = gate_entry planned place number in
      let turn : own.moment % 3 ≡ 0 = omega arith in
      gate_found place number at net (ap (λ (first : Bool). is_among (if first then gate_inputs (driving_cell planned.ordered.flat own.net) else (if is_sending own then own.net ∷ [] else [])) net) (sym (eq-eqb (own.moment % 3) 0 turn)) ∙ among)

  sent_finds : (number place : ℕ) (wire : Wire) (hop : Hop) → slice_get planned.plan.wires number ≡ Some wire
      → slice_get wire.hops place ≡ Some hop → FindsAll (sent_entry planned.board.links wire.net hop)
  sent_finds number place wire hop there is net among =
      let own = sent_entry planned.board.links wire.net hop in
      let turn : own.moment % 3 ≡ 1 = omega arith in
      let inner : is_among (if is_sending own then own.net ∷ [] else []) net ≡ true = ap (λ (first : Bool). is_among (if first then gate_inputs (driving_cell planned.ordered.flat own.net) else (if is_sending own then own.net ∷ [] else [])) net) (sym (other 0 (own.moment % 3) 1 turn (omega arith))) ∙ among in
      let one : is_among (own.net ∷ []) net ≡ true = ap (λ (first : Bool). is_among (if first then own.net ∷ [] else []) net) (sym (eq-eqb (own.moment % 3) 1 turn)) ∙ inner in
      let at = among_at (own.net ∷ []) net one in
      let first : at.0 ≡ 0 = omega (arith, at.1) in
      let same : own.net ≡ net = ap (λ (k : ℕ). get_or (own.net ∷ []) k 0) (sym first) ∙ at.2 in
      subst (IsFound own) same (sent_found number wire there place hop is)

  taken_finds : (net : ℕ) (hop : Hop) → FindsAll (taken_entry planned.board.links net hop)
  taken_finds of hop net among =
      let own = taken_entry planned.board.links of hop in
      let turn : own.moment % 3 ≡ 2 = omega arith in
      let inner : is_among (if is_sending own then own.net ∷ [] else []) net ≡ true = ap (λ (first : Bool). is_among (if first then gate_inputs (driving_cell planned.ordered.flat own.net) else (if is_sending own then own.net ∷ [] else [])) net) (sym (other 0 (own.moment % 3) 2 turn (omega arith))) ∙ among in
      absurd (true≢false (sym (ap (λ (first : Bool). is_among (if first then own.net ∷ [] else []) net) (sym (other 1 (own.moment % 3) 2 turn (omega arith))) ∙ inner)))

  gates_find : (from : ℕ) (numbers : List ℕ)
      → ((place number : ℕ) → slice_get numbers place ≡ Some number → FindsAll (gate_entry planned (from + place) number))
      → AllByRecursion FindsAll (gate_entries planned from numbers)
  gates_find from [] each = tt
  gates_find from (number ∷ numbers) each =
      let at : from + 0 ≡ from = omega arith in (
        subst (λ (place : ℕ). FindsAll (gate_entry planned place number)) at (each 0 number refl),
        gates_find (suc from) numbers (λ place other is. let next : from + suc place ≡ suc from + place = omega arith in subst (λ (one : ℕ). FindsAll (gate_entry planned one other)) next (each (suc place) other is)),
      )

  all_find : AllByRecursion FindsAll (entries planned)
  all_find =
      let links = planned.board.links in
      all_append FindsAll (gate_entries planned 0 order) (wire_entries links planned.plan.wires)
      (gates_find 0 order (λ place number is. let at : place ≡ 0 + place = omega arith in subst (λ (one : ℕ). FindsAll (gate_entry planned one number)) at (gate_finds place number is)))
      (all_flat_map FindsAll (λ (wire : Wire). hop_entries links wire.net wire.hops) planned.plan.wires (λ number wire there.
      all_flat_map FindsAll (λ (hop : Hop). sent_entry links wire.net hop ∷ taken_entry links wire.net hop ∷ []) wire.hops (λ place hop is.
      (sent_finds number place wire hop there is, (taken_finds wire.net hop, tt)))))

  module _ (node : ℕ) where
    abbrev own_entries : List Entry
    own_entries = entries_at node (timetable planned)

    own_find : AllByRecursion FindsAll own_entries
    unfolding timetable
    own_find = all_filter comes_before FindsAll (is_at node) (timetable planned) (all_sorted comes_before FindsAll (entries planned) all_find)

    pub own_rises : Rises comes_before own_entries
    unfolding timetable
    own_rises = part_rises comes_before is_order (is_at node) (entries planned)

    -- what passes a test among all entries does so among those of the node
    any_own : (test : Entry → Bool) → ((entry : Entry) → test entry ≡ true → is_at node entry ≡ true)
        → list_any test (entries planned) ≡ true → list_any test own_entries ≡ true
    unfolding timetable
    any_own test at any = any_part test (is_at node) at (timetable planned) (any_sorted comes_before test (entries planned) ∙ any)

    pub finds_reads : FindsReads planned node
    finds_reads number entry is = λ place default within.
        let net = get_or (nets_read planned entry) place default in
        let made = take number own_entries in
        let here : entry.node ≡ node = eqb-true entry.node node (all_at (λ (one : Entry). is_at node one ≡ true) own_entries number entry (recursion_from_All (λ (one : Entry). is_at node one ≡ true) own_entries (filter_passes (is_at node) (timetable planned))) is) in
        let if_source = λ (source : is_source planned entry.node net ≡ true). or_left (is_source planned node net) (list_any (settles_net net) made) (ap (λ (one : ℕ). is_source planned one net) (sym here) ∙ source) in
        let if_given = λ (given : GivenBefore entry net).
        let test = λ (one : Entry). (settles_net net one && is_at node one) && comes_before one entry in
        let passes = and_from (settles_net net given.0.entry && is_at node given.0.entry) (comes_before given.0.entry entry) (and_from (settles_net net given.0.entry) (is_at node given.0.entry) given.0.gives_net (eq-eqb given.0.entry.node node (given.0.here ∙ here))) given.1 in
        let any = any_own test (λ one fine. (and_parts (settles_net net one) (is_at node one) (and_parts (settles_net net one && is_at node one) (comes_before one entry) fine).0).1) (given.0.is_entry test passes) in
        let before = stands_before comes_before is_order test own_entries number entry own_rises is (λ one fine. (and_parts (settles_net net one && is_at node one) (comes_before one entry) fine).1) any in
        or_right (is_source planned node net) (list_any (settles_net net) made) (any_weaker test (settles_net net) (λ one fine. (and_parts (settles_net net one) (is_at node one) (and_parts (settles_net net one && is_at node one) (comes_before one entry) fine).0).0) made before) in
        ⊎_elim if_source if_given (all_at FindsAll own_entries number entry own_find is net (at_among (nets_read planned entry) place default within))

    -- ---- the step

    given_due : (net : ℕ) → Giver planned node net → is_due planned node own_entries net ≡ true
    given_due net giver =
        let test = λ (one : Entry). settles_net net one && is_at node one in
        let any = any_own test (λ one fine. (and_parts (settles_net net one) (is_at node one) fine).1) (giver.is_entry test (and_from (settles_net net giver.entry) (is_at node giver.entry) giver.gives_net (eq-eqb giver.entry.node node giver.here))) in
        or_right (is_source planned node net) (list_any (settles_net net) own_entries) (any_weaker test (settles_net net) (λ one fine. (and_parts (settles_net net one) (is_at node one) fine).0) own_entries any)

    own_due : (net : ℕ) → net < inputs + length cells → home planned net ≡ node → is_due planned node own_entries net ≡ true
    own_due net within here = ⊎_elim (λ source. or_left (is_source planned node net) (list_any (settles_net net) own_entries) source) (λ (g : (giver : Giver planned node net) × (giver.entry.moment ≤ 3 * lead planned node net)). given_due net g.0) (own_given planned sound node net within here)

    needed_due : (net : ℕ) → is_needed planned.ordered.flat planned.plan.chip_of net node ≡ true → is_due planned node own_entries net ≡ true
    needed_due net needed = given_due net (needed_gives planned sound node net needed).0

    output_due : (net : ℕ) → node ≡ 0 → is_among planned.ordered.flat.outputs net ≡ true → is_due planned node own_entries net ≡ true
    output_due net host among =
        let if_own = λ (is : eqb (home planned net) node ≡ true). own_due net (among_below planned.ordered.flat.outputs net (inputs + length cells) planned.ordered.flat.outputs_fit among) (eqb-true (home planned net) node is) in
        let if_away = λ (away : eqb (home planned net) node ≡ false).
        let reads_it = is_read_at planned.ordered.flat planned.plan.chip_of net node in
        let at_host = and_from (eqb node 0) (is_among planned.ordered.flat.outputs net) (eq-eqb node 0 host) among in
        needed_due net (and_from (not (eqb (home planned net) node)) (reads_it || (eqb node 0 && is_among planned.ordered.flat.outputs net)) (ap not away) (or_right reads_it (eqb node 0 && is_among planned.ordered.flat.outputs net) at_host)) in
        ⊎_elim if_own if_away (cases_Bool (eqb (home planned net) node))

    latch_due : (net : ℕ) → (is_latch (driving_cell planned.ordered.flat net) && eqb (home planned net) node) ≡ true
        → is_due planned node own_entries net ≡ true
    latch_due net is =
        let parts = and_parts (is_latch (driving_cell planned.ordered.flat net)) (eqb (home planned net) node) is in
        or_left (is_source planned node net) (list_any (settles_net net) own_entries) (and_from (eqb (home planned net) node) (nat_lt net inputs || is_latch (driving_cell planned.ordered.flat net)) parts.1 (or_right (nat_lt net inputs) (is_latch (driving_cell planned.ordered.flat net)) parts.0))

    input_due : (latch d : ℕ) (init : Init) → driving_cell planned.ordered.flat latch ≡ Some (Latch d init) → home planned latch ≡ node
        → is_due planned node own_entries d ≡ true
    input_due latch d init is here =
        let number = latch - inputs in
        let if_input = λ (input : nat_lt latch inputs ≡ true).
        let none : None ≡ Some (Latch d init) = ap (λ (first : Bool). if first then None else slice_get cells number) (sym input) ∙ is in
        let whole : is_due planned node own_entries d ≡ true = absurd (cc none) in whole in
        let if_cell = λ (no : nat_lt latch inputs ≡ false).
        let cell : slice_get cells number ≡ Some (Latch d init) = ap (λ (first : Bool). if first then None else slice_get cells number) (sym no) ∙ is in
        let chip : node ≡ slice_index planned.plan.chip_of number = sym here ∙ ap (λ (first : Bool). if first then 0 else slice_index planned.plan.chip_of number) no in
        let reads_d : is_among (read_nets_at (slice_get cells number)) d ≡ true = ap (λ (one : Option Cell). is_among (read_nets_at one) d) cell ∙ or_left (eqb d d) false (eq-eqb d d refl) in
        let if_own = λ (own : eqb (home planned d) node ≡ true). own_due d (read_below number (Latch d init) d cell (or_left (eqb d d) false (eq-eqb d d refl))) (eqb-true (home planned d) node own) in
        let if_away = λ (away : eqb (home planned d) node ≡ false).
        let needed = read_needed planned.ordered.flat planned.plan.chip_of number d sound.one_chip_each.each reads_d (ap (eqb (home planned d)) (sym chip) ∙ away) in
        needed_due d (ap (λ (one : ℕ). is_needed planned.ordered.flat planned.plan.chip_of d one) chip ∙ needed) in
        let whole : is_due planned node own_entries d ≡ true = ⊎_elim if_own if_away (cases_Bool (eqb (home planned d) node)) in whole in
        ⊎_elim if_input if_cell (cases_Bool (nat_lt latch inputs)) where
          read_below : (number : ℕ) (cell : Cell) (net : ℕ) → slice_get cells number ≡ Some cell → is_among (read_nets cell) net ≡ true
              → net < inputs + length cells
          read_below number cell net at among =
              let fits : IsWellFormed (inputs + length cells) cell = subst (IsWellFormed (inputs + length cells)) (get_or_from_slice_get cells number cell cell at) (planned.ordered.flat.cells_fit number cell (slice_get_within cells number cell at)) in
              among_below (read_nets cell) net (inputs + length cells) fits.1 among

    pub finds_ends : FindsEnds planned node
    finds_ends = record {
      records = λ place default within. by (eqb node 0) refl place default within;
      inputs = input_due;
    } where
      by : (host : Bool) → eqb node 0 ≡ host
          → All (λ net. is_due planned node own_entries net ≡ true) (if host then planned.ordered.flat.outputs else own_latches planned node)
      by true is place default within = output_due (get_or planned.ordered.flat.outputs place default) (eqb-true node 0 is) (at_among planned.ordered.flat.outputs place default within)
      by false is place default within = latch_due (get_or (own_latches planned node) place default) (filter_passes (λ net. is_latch (driving_cell planned.ordered.flat net) && eqb (home planned net) node) (range_with_len inputs (length cells)) place default within)
