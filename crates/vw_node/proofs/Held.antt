-- A node holds its values after each of its actions.
use Rattle.std.proofs.Common.{◌≡◌, ◌<◌, ◌+◌, ◌-◌, ◌||◌, ◌∷◌, ◌++◌, ℕ, Bool, true, false, not, List, [], length, map, take, get_or, set, eqb, nat_lt, slice_get, slice_index_or, if◌then◌else◌, ap, ap₂, refl, sym, subst, ◌∙◌, ⊎_elim, true≢false, eqb-true, le-ltb, Option, Some, None, All, arith}
use Rattle.std.specs.List.{list_any}
use Rattle.std.proofs.lemmas.Bool.{and_parts, cases_eq, ltb-false, ltb-true, or_cases}
use Rattle.std.proofs.lemmas.List.{get_or-set_other, get_or-set_same, length-set, take_all}
use Rattle.std.proofs.lemmas.List.Folds.{list_any_more}
use Rattle.std.proofs.lemmas.Option.{get_or_from_slice_get, slice_get-get_or, slice_get_within}
use Rattle.vw_net.specs.declared.cell.Cell.{Cell}
use Rattle.vw_net.specs.declared.cell.Cell.TheVariants.{Gate, Latch}
use Rattle.vw_net.specs.declared.cell.Init.{Init}
use Rattle.vw_net.specs.declared.cover.Cover.{Cover}
use Rattle.vw_net.specs.declared.flat.Flat.{Flat}
use Rattle.vw_net.specs.Cover.{cover_value}
use Rattle.vw_net.specs.Order.{gate_inputs, is_latch}
use Rattle.vw_net.proofs.DrivenValues.{map_agree}
use Rattle.vw_plan.specs.Nets.{driving_cell}
use Rattle.vw_plan.specs.PlannedBoard.{PlannedBoard, home}
use Rattle.vw_prog.specs.declared.entry.Entry.{Entry}
use Rattle.vw_prog.specs.declared.job.Job.{Job}
use Rattle.vw_prog.specs.Due.{settles_net, is_due, is_source, nets_read, recorded}
use Rattle.vw_prog.specs.Scripts.{planned_of, value_at}
use Rattle.vw_prog.specs.Timetable.{entries_at, is_evaluating, is_sending, timetable}
use Rattle.vw_prog.proofs.DueReads.{finds_ends, finds_reads}
use Rattle.vw_node.specs.States.{NodeState, gate_bit, input_bit, kept_bit, latch_bit, latch_number, moved_on, slot, start_bit, start_state, stepped, stepped_bit, written}
use Rattle.vw_node.specs.Holding.{HoldsValues}
use Rattle.vw_node.proofs.Clocks.{value-gate, value-input, value-latch, value-stepped}
use Rattle.vw_node.proofs.Values.{get_or-tabulate, length-tabulate, tabulate_more}

module _ (job : Job) (node : ℕ) where
  abbrev planned : PlannedBoard
  planned = planned_of job

  abbrev flat : Flat
  flat = job.checked.ordered.flat

  abbrev own : List Entry
  own = entries_at node (timetable planned)

  -- ---- an action that isn't the step

  module _ (state : NodeState) (holds : HoldsValues job node state) (entry : Entry) (at : slice_get own state.made ≡ Some entry) (unfinished : state.clock < length job.rows) where
    below : state.made < length own
    below = slice_get_within own state.made entry at

    -- what is due then: what was due, and the net that the entry settles_net
    due_more : (net : ℕ) → is_due planned node (take (state.made + 1) own) net ≡ (is_due planned node (take state.made own) net || settles_net net entry)
    due_more net =
        let here : get_or own state.made entry ≡ entry = get_or_from_slice_get own state.made entry entry at in
        ap (λ (rest : Bool). is_source planned node net || rest) (list_any_more (settles_net net) own state.made entry below ∙ ap (λ (one : Entry). list_any (settles_net net) (take state.made own) || settles_net net one) here)
        ∙ regroup (is_source planned node net) (list_any (settles_net net) (take state.made own)) (settles_net net entry) where
          regroup : (one other third : Bool) → (one || (other || third)) ≡ ((one || other) || third)
          regroup true other third = refl
          regroup false other third = refl

    -- what it nets_read is due
    pub reads_due : (place default : ℕ) → place < length (nets_read planned entry)
        → slot state (get_or (nets_read planned entry) place default) ≡ value_at job state.clock (get_or (nets_read planned entry) place default)
    reads_due place default within = holds.due unfinished (get_or (nets_read planned entry) place default) (finds_reads planned job.checked.sound node state.made entry at place default within)

    -- a send changes nothing
    pub sent_holds : is_sending entry ≡ true → HoldsValues job node (moved_on state)
    sent_holds sends = record {
      within = holds.within;
      under = omega (arith, below);
      ended = λ is. absurd (omega (arith, is, unfinished));
      size = holds.size;
      due = λ left net is. holds.due left net (still net is);
      latched = holds.latched;
      told = holds.told;
    } where
      still : (net : ℕ) → is_due planned node (take (state.made + 1) own) net ≡ true → is_due planned node (take state.made own) net ≡ true
      still net is =
          let both = sym (due_more net) ∙ is in
          ⊎_elim (λ before. before) (λ given. absurd (true≢false (sym (and_parts (not (is_sending entry)) (eqb entry.net net) given).0 ∙ ap not sends))) (or_cases (is_due planned node (take state.made own) net) (settles_net net entry) both)

    -- a slot gets the value of its net
    pub written_holds : (net : ℕ) (bit : Bool) → entry.net ≡ net → bit ≡ value_at job state.clock net → net < length state.slots
        → HoldsValues job node (written state net bit)
    written_holds net bit same right inside = record {
      within = holds.within;
      under = omega (arith, below);
      ended = λ is. absurd (omega (arith, is, unfinished));
      size = length-set state.slots net bit ∙ holds.size;
      due = λ left other is. both other (λ apart. holds.due left other (still other is apart));
      latched = λ other past is. both other (λ apart. holds.latched other past is);
      told = holds.told;
    } where
      both : (other : ℕ) → ((net ≡ other → ⊥) → slot state other ≡ value_at job state.clock other)
          → slot (written state net bit) other ≡ value_at job state.clock other
      both other kept =
          let if_same = λ (is : net ≡ other). ap (λ (one : ℕ). get_or (set state.slots net bit) one false) (sym is) ∙ get_or-set_same state.slots net bit false inside ∙ right ∙ ap (value_at job state.clock) is in
          let if_other = λ (apart : net ≡ other → ⊥). get_or-set_other state.slots net other bit false (λ is. apart (sym is)) ∙ kept apart in
          ⊎_elim if_same if_other (cases_eq net other)

      still : (other : ℕ) → is_due planned node (take (state.made + 1) own) other ≡ true → (net ≡ other → ⊥)
          → is_due planned node (take state.made own) other ≡ true
      still other is apart =
          ⊎_elim (λ before. before) (λ given. absurd (apart (sym same ∙ eqb-true entry.net other (and_parts (not (is_sending entry)) (eqb entry.net other) given).1))) (or_cases (is_due planned node (take state.made own) other) (settles_net other entry) (sym (due_more other) ∙ is))

    -- the bit that a gate gets
    pub gate_right : (gate : ℕ) → is_evaluating entry ≡ true → entry.net ≡ flat.inputs + gate → (ins : List ℕ) (cover : Cover)
        → slice_get flat.cells gate ≡ Some (Gate ins cover)
        → gate_bit (slot state) (slice_get flat.cells gate) ≡ value_at job state.clock (flat.inputs + gate)
    gate_right gate turn its ins cover is =
        let nets : nets_read planned entry ≡ ins =
        ap (λ (first : Bool). if first then gate_inputs (driving_cell flat entry.net) else (if is_sending entry then entry.net ∷ [] else [])) turn
        ∙ ap (λ (net : ℕ). gate_inputs (driving_cell flat net)) its ∙ driven gate ins cover is in
        let agree : All (λ net. slot state net ≡ value_at job state.clock net) ins = subst (All (λ (net : ℕ). slot state net ≡ value_at job state.clock net)) nets reads_due in
        ap (gate_bit (slot state)) is ∙ ap (cover_value cover) (map_agree (slot state) (value_at job state.clock) ins agree) ∙ sym (value-gate job state.clock gate ins cover is) where
          driven : (gate : ℕ) (ins : List ℕ) (cover : Cover) → slice_get flat.cells gate ≡ Some (Gate ins cover)
              → gate_inputs (driving_cell flat (flat.inputs + gate)) ≡ ins
          driven gate ins cover is =
              let no : nat_lt (flat.inputs + gate) flat.inputs ≡ false = le-ltb (flat.inputs + gate) flat.inputs (omega arith) in
              let back : flat.inputs + gate - flat.inputs ≡ gate = omega arith in
              ap (λ (input : Bool). gate_inputs (if input then None else slice_get flat.cells (flat.inputs + gate - flat.inputs))) no ∙ ap (λ (one : ℕ). gate_inputs (slice_get flat.cells one)) back ∙ ap gate_inputs is

  -- ---- the step

  pub latch_is : (cell : Option Cell) → is_latch cell ≡ true → (d : ℕ) × ((init : Init) × (cell ≡ Some (Latch d init)))
  latch_is None is = absurd (true≢false (sym is))
  latch_is (Some (Gate ins cover)) is = absurd (true≢false (sym is))
  latch_is (Some (Latch d init)) is = (d, (init, refl))

  pub latch_within : (net d : ℕ) (init : Init) → driving_cell flat net ≡ Some (Latch d init) → net < flat.inputs + length flat.cells
  latch_within net d init is = by (nat_lt net flat.inputs) refl is where
    by : (input : Bool) → nat_lt net flat.inputs ≡ input
        → (if input then None else slice_get flat.cells (net - flat.inputs)) ≡ Some (Latch d init) → net < flat.inputs + length flat.cells
    by true test at = cc
    by false test at = omega (arith, slice_get_within flat.cells (net - flat.inputs) (Latch d init) at, ltb-false net flat.inputs test)

  module _ (state : NodeState) (holds : HoldsValues job node state) (all_made : state.made ≡ length own) (unfinished : state.clock < length job.rows) where
    whole : take state.made own ≡ own
    whole = take_all state.made own (omega (arith, all_made))

    due_now : (net : ℕ) → is_due planned node own net ≡ true → slot state net ≡ value_at job state.clock net
    due_now net is = holds.due unfinished net (ap (λ (made : List Entry). is_due planned node made net) whole ∙ is)

    -- the slots are as the step makes them
    stepped_slot : (net : ℕ) → net < flat.inputs + length flat.cells → slot (stepped job node state) net ≡ stepped_bit job node state net
    stepped_slot net within = get_or-tabulate (stepped_bit job node state) (length state.slots) net false (omega (arith, within, holds.size))

    latch_slot : (net : ℕ) → eqb (home planned net) node ≡ true → is_latch (driving_cell flat net) ≡ true
        → slot (stepped job node state) net ≡ value_at job (state.clock + 1) net
    latch_slot net here latch =
        let cell = latch_is (driving_cell flat net) latch in
        let is : driving_cell flat net ≡ Some (Latch cell.0 cell.1.0) = cell.1.1 in
        let within : net < flat.inputs + length flat.cells = latch_within net cell.0 cell.1.0 is in
        let bit : stepped_bit job node state net ≡ slot state cell.0 =
        ap (λ (home_is : Bool). if home_is then (if nat_lt net flat.inputs then input_bit (slice_get job.rows (state.clock + 1)) net (slot state net) else latch_bit (slot state) (slot state net) (driving_cell flat net)) else slot state net) here
        ∙ by net cell.0 cell.1.0 (nat_lt net flat.inputs) is in
        let d_due = (finds_ends planned job.checked.sound node).inputs net cell.0 cell.1.0 is (eqb-true (home planned net) node here) in
        stepped_slot net within ∙ bit ∙ due_now cell.0 d_due ∙ sym (value-stepped job state.clock net cell.0 cell.1.0 is unfinished) where
          by : (net d : ℕ) (init : Init) (input : Bool) → (if input then None else slice_get flat.cells (net - flat.inputs)) ≡ Some (Latch d init)
              → (if input then input_bit (slice_get job.rows (state.clock + 1)) net (slot state net) else latch_bit (slot state) (slot state net) (if input then None else slice_get flat.cells (net - flat.inputs))) ≡ slot state d
          by net d init true at = cc
          by net d init false at = ap (latch_bit (slot state) (slot state net)) at

    input_slot : (net : ℕ) → state.clock + 1 < length job.rows → eqb (home planned net) node ≡ true → nat_lt net flat.inputs ≡ true
        → slot (stepped job node state) net ≡ value_at job (state.clock + 1) net
    input_slot net left here input =
        let within : net < flat.inputs + length flat.cells = omega (arith, ltb-true net flat.inputs input) in
        let row : slice_get job.rows (state.clock + 1) ≡ Some (get_or job.rows (state.clock + 1) []) = slice_get-get_or job.rows (state.clock + 1) [] left in
        stepped_slot net within
        ∙ ap (λ (home_is : Bool). if home_is then (if nat_lt net flat.inputs then input_bit (slice_get job.rows (state.clock + 1)) net (slot state net) else latch_bit (slot state) (slot state net) (driving_cell flat net)) else slot state net) here
        ∙ ap (λ (is : Bool). if is then input_bit (slice_get job.rows (state.clock + 1)) net (slot state net) else latch_bit (slot state) (slot state net) (driving_cell flat net)) input
        ∙ ap (λ (next : Option (List Bool)). input_bit next net (slot state net)) row
        ∙ sym (value-input job (state.clock + 1) net input)

    source_slot : (net : ℕ) → state.clock + 1 < length job.rows → is_source planned node net ≡ true
        → slot (stepped job node state) net ≡ value_at job (state.clock + 1) net
    source_slot net left is =
        let parts = and_parts (eqb (home planned net) node) (nat_lt net flat.inputs || is_latch (driving_cell flat net)) is in
        ⊎_elim (λ input. input_slot net left parts.0 input) (λ latch. latch_slot net parts.0 latch) (or_cases (nat_lt net flat.inputs) (is_latch (driving_cell flat net)) parts.1)

    pub stepped_holds : HoldsValues job node (stepped job node state)
    stepped_holds = record {
      within = omega (arith, unfinished);
      under = omega arith;
      ended = λ is. refl;
      size = length-tabulate (stepped_bit job node state) (length state.slots) ∙ holds.size;
      due = λ left net is. source_slot net left (⊎_elim (λ source. source) (λ none. absurd (true≢false (sym none))) (or_cases (is_source planned node net) false is));
      latched = λ net past is.
          let parts = and_parts (eqb (home planned net) node) (nat_lt net flat.inputs || is_latch (driving_cell flat net)) is in
          ⊎_elim (λ input. absurd (omega (arith, past, ltb-true net flat.inputs input))) (λ latch. latch_slot net parts.0 latch) (or_cases (nat_lt net flat.inputs) (is_latch (driving_cell flat net)) parts.1);
      told =
          let records : All (λ net. slot state net ≡ value_at job state.clock net) (recorded planned node) = λ place default within. due_now (get_or (recorded planned node) place default) ((finds_ends planned job.checked.sound node).records place default within) in
          ap₂ (λ (rows : List (List Bool)) (row : List Bool). rows ++ row ∷ []) holds.told (map_agree (slot state) (value_at job state.clock) (recorded planned node) records)
          ∙ sym (tabulate_more (λ clock. map (value_at job clock) (recorded planned node)) state.clock);
    }

  -- ---- the start

  start_slot : (net : ℕ) → net < flat.inputs + length flat.cells → slot (start_state job node) net ≡ start_bit job node net
  start_slot net within = get_or-tabulate (start_bit job node) (flat.inputs + length flat.cells) net false within

  start_latch : (net : ℕ) → eqb (home planned net) node ≡ true → is_latch (driving_cell flat net) ≡ true → slot (start_state job node) net ≡ value_at job 0 net
  start_latch net here latch =
      let cell = latch_is (driving_cell flat net) latch in
      let is : driving_cell flat net ≡ Some (Latch cell.0 cell.1.0) = cell.1.1 in
      start_slot net (latch_within net cell.0 cell.1.0 is)
      ∙ ap (λ (home_is : Bool). if home_is then (if nat_lt net flat.inputs then input_bit (slice_get job.rows 0) net false else kept_bit job.start (latch_number job net) (driving_cell flat net)) else false) here
      ∙ by (nat_lt net flat.inputs) is
      ∙ sym (value-latch job 0 net cell.0 cell.1.0 is) where
        by : (input : Bool) {d : ℕ} {init : Init} → (if input then None else slice_get flat.cells (net - flat.inputs)) ≡ Some (Latch d init)
            → (if input then input_bit (slice_get job.rows 0) net false else kept_bit job.start (latch_number job net) (if input then None else slice_get flat.cells (net - flat.inputs))) ≡ slice_index_or job.start (latch_number job net) false
        by true at = cc
        by false at = ap (kept_bit job.start (latch_number job net)) at

  start_source : (net : ℕ) → 0 < length job.rows → is_source planned node net ≡ true → slot (start_state job node) net ≡ value_at job 0 net
  start_source net some is =
      let parts = and_parts (eqb (home planned net) node) (nat_lt net flat.inputs || is_latch (driving_cell flat net)) is in
      let if_input = λ (input : nat_lt net flat.inputs ≡ true).
      let row : slice_get job.rows 0 ≡ Some (get_or job.rows 0 []) = slice_get-get_or job.rows 0 [] some in
      start_slot net (omega (arith, ltb-true net flat.inputs input))
      ∙ ap (λ (home_is : Bool). if home_is then (if nat_lt net flat.inputs then input_bit (slice_get job.rows 0) net false else kept_bit job.start (latch_number job net) (driving_cell flat net)) else false) parts.0
      ∙ ap (λ (first : Bool). if first then input_bit (slice_get job.rows 0) net false else kept_bit job.start (latch_number job net) (driving_cell flat net)) input
      ∙ ap (λ (next : Option (List Bool)). input_bit next net false) row
      ∙ sym (value-input job 0 net input) in
      ⊎_elim if_input (λ latch. start_latch net parts.0 latch) (or_cases (nat_lt net flat.inputs) (is_latch (driving_cell flat net)) parts.1)

  pub start_holds : HoldsValues job node (start_state job node)
  start_holds = record {
    within = omega arith;
    under = omega arith;
    ended = λ is. refl;
    size = length-tabulate (start_bit job node) (flat.inputs + length flat.cells);
    due = λ left net is. start_source net left (⊎_elim (λ source. source) (λ none. absurd (true≢false (sym none))) (or_cases (is_source planned node net) false is));
    latched = λ net past is.
        let parts = and_parts (eqb (home planned net) node) (nat_lt net flat.inputs || is_latch (driving_cell flat net)) is in
        ⊎_elim (λ input. absurd (omega (arith, past, ltb-true net flat.inputs input))) (λ latch. start_latch net parts.0 latch) (or_cases (nat_lt net flat.inputs) (is_latch (driving_cell flat net)) parts.1);
    told = refl;
  }
