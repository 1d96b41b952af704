-- A node stands where its ends do, after each of its actions.
use Rattle.std.proofs.Common.{◌≡◌, ◌<◌, ◌+◌, ◌-◌, ◌&&◌, ◌∷◌, ℕ, Bool, true, false, List, [], length, take, eqb, slice_get, if◌then◌else◌, ap, ap₂, refl, sym, subst, ◌∙◌, ⊎_elim, true≢false, eqb-true, eq-eqb, lt-ltb, Option, Some, None, All, arith}
use Rattle.std.specs.List.{count_by}
use Rattle.std.proofs.lemmas.Bool.{and_from, cases_Bool}
use Rattle.std.proofs.lemmas.List.Elements.{filter_passes, recursion_from_All}
use Rattle.std.proofs.lemmas.Option.{slice_get_within}
use Rattle.vw_net.specs.Steps.Bits.{one_if}
use Rattle.vw_net.specs.declared.cell.Cell.{Cell}
use Rattle.vw_net.specs.declared.cell.Cell.TheVariants.{Gate, Latch}
use Rattle.vw_net.specs.declared.cover.Cover.{Cover}
use Rattle.vw_net.specs.Order.{gate_inputs, is_gate}
use Rattle.vw_net.proofs.Orders.{eqb_comm, gate_within}
use Rattle.vw_plan.specs.declared.link.Link.{Link}
use Rattle.vw_plan.specs.Nets.{driving_cell}
use Rattle.vw_plan.specs.PlannedBoard.{PlannedBoard}
use Rattle.vw_prog.specs.declared.action.Action.{Action}
use Rattle.vw_prog.specs.declared.entry.Entry.{Entry}
use Rattle.vw_prog.specs.declared.job.Job.{Job}
use Rattle.vw_prog.specs.declared.word.Word.{Word}
use Rattle.vw_prog.specs.Actions.{actions}
use Rattle.vw_prog.specs.Due.{nets_read}
use Rattle.vw_prog.specs.Ends.{IsExpected, IsNextWord, SeenEnds, counted_at, refused}
use Rattle.vw_prog.specs.Scripts.{planned_of, script, value_at, word_at}
use Rattle.vw_prog.specs.Timetable.{entries_at, is_at, is_evaluating, is_sending, is_sent, is_taken, is_taking, timetable}
use Rattle.vw_net.proofs.ListParts.{all_at}
use Rattle.vw_prog.proofs.EntryParts.{HasParts, entry_has}
use Rattle.vw_node.specs.Positions.{Agrees}
use Rattle.vw_node.specs.States.{NodeState, evaluated, gate_bit, moved_on, next_action, slot, stepped, written}
use Rattle.vw_node.proofs.Held.{gate_right, reads_due, sent_holds, stepped_holds, written_holds}
use Rattle.vw_node.proofs.EntryKinds.{other_turn}
use Rattle.vw_node.proofs.Words.{all_sent, all_taken, count_more, sent_word, taken_word}

gate_is : (cell : Option Cell) → is_gate cell ≡ true → (ins : List ℕ) × ((cover : Cover) × (cell ≡ Some (Gate ins cover)))
gate_is None is = absurd (true≢false (sym is))
gate_is (Some (Gate ins cover)) is = (ins, (cover, refl))
gate_is (Some (Latch d init)) is = absurd (true≢false (sym is))

-- a count with one more at the link of an entry
counted_by : (link number : ℕ) (counts : ℕ → ℕ) (kind : Bool) → kind ≡ true → counted_at link counts number ≡ counts number + one_if (kind && eqb link number)
counted_by link number counts kind is =
    let if_same = λ (same : eqb number link ≡ true).
    let turned : (kind && eqb link number) ≡ true = and_from kind (eqb link number) is (eqb_comm link number ∙ same) in
    let one : one_if (kind && eqb link number) ≡ 1 = ap one_if turned in
    let here : counted_at link counts number ≡ counts number + 1 = ap (λ (own : Bool). if own then counts number + 1 else counts number) same in
    let whole : counted_at link counts number ≡ counts number + one_if (kind && eqb link number) = omega (arith, one, here) in whole in
    let if_other = λ (other : eqb number link ≡ false).
    let turned : (kind && eqb link number) ≡ false = ap₂ (λ (one two : Bool). one && two) is (eqb_comm link number ∙ other) in
    let none : one_if (kind && eqb link number) ≡ 0 = ap one_if turned in
    let here : counted_at link counts number ≡ counts number = ap (λ (own : Bool). if own then counts number + 1 else counts number) other in
    let whole : counted_at link counts number ≡ counts number + one_if (kind && eqb link number) = omega (arith, none, here) in whole in
    ⊎_elim if_same if_other (cases_Bool (eqb number link))

module _ (ends : SeenEnds) (node : ℕ) (state : NodeState) (agrees : Agrees ends.job node state ends) where
  abbrev job : Job
  job = ends.job

  abbrev planned : PlannedBoard
  planned = planned_of job

  abbrev own : List Entry
  own = entries_at node (timetable planned)

  abbrev inputs : ℕ
  inputs = job.checked.ordered.flat.inputs

  abbrev cells : List Cell
  cells = job.checked.ordered.flat.cells

  own_at : (place : ℕ) (entry : Entry) → slice_get own place ≡ Some entry → entry.node ≡ node
  own_at place entry is = eqb-true entry.node node (all_at (λ (one : Entry). is_at node one ≡ true) own place entry (recursion_from_All (λ (one : Entry). is_at node one ≡ true) own (filter_passes (is_at node) (timetable planned))) is)

  -- a refusal changes no position
  pub full_agrees : (link : ℕ) → Agrees job node state (record ends { full = refused link ends.full })
  full_agrees link = record { same_job = agrees.same_job; same_node = agrees.same_node; sent = agrees.sent; taken = agrees.taken; holds = agrees.holds }

  pub empty_agrees : (link : ℕ) → Agrees job node state (record ends { empty = refused link ends.empty })
  empty_agrees link = record { same_job = agrees.same_job; same_node = agrees.same_node; sent = agrees.sent; taken = agrees.taken; holds = agrees.holds }

  module _ (unfinished : state.clock < length job.rows) where
    pub next_of : (action : Action) → slice_get (actions planned node) state.made ≡ Some action → next_action job node state ≡ Some action
    next_of action is = ap (λ (left : Bool). if left then slice_get (actions planned node) state.made else None) (lt-ltb state.clock (length job.rows) unfinished) ∙ is

    -- ---- the action of an entry

    module _ (entry : Entry) (at : slice_get own state.made ≡ Some entry) where
      its : HasParts planned job.checked.sound entry
      its = entry_has planned job.checked.sound node state.made entry at

      -- what isn't counted_at stays
      no_sent : (number : ℕ) → is_sending entry ≡ false
          → count_by (is_sent number) (take (state.made + 1) own) ≡ count_by (is_sent number) (take state.made own)
      no_sent number apart = omega (arith, count_more (is_sent number) own state.made entry at, ap (λ (kind : Bool). one_if (kind && eqb entry.link number)) apart)

      no_taken : (number : ℕ) → is_taking entry ≡ false
          → count_by (is_taken number) (take (state.made + 1) own) ≡ count_by (is_taken number) (take state.made own)
      no_taken number apart = omega (arith, count_more (is_taken number) own state.made entry at, ap (λ (kind : Bool). one_if (kind && eqb entry.link number)) apart)

      -- ---- a gate

      module _ (gate : ℕ) (turn : is_evaluating entry ≡ true) (number : gate ≡ entry.net - inputs) where
        back : entry.net ≡ inputs + gate
        back = omega (arith, (its.gate turn).1.0, number)

        a_gate : is_gate (slice_get cells gate) ≡ true
        a_gate = let same : (its.gate turn).0 ≡ gate = omega (arith, (its.gate turn).1.0, number) in ap (λ (one : ℕ). is_gate (slice_get cells one)) (sym same) ∙ (its.gate turn).1.1

        pub gate_net : inputs + gate < inputs + length cells
        gate_net = omega (arith, gate_within cells gate a_gate)

        pub evaluated_agrees : Agrees job node (evaluated planned gate state) ends
        evaluated_agrees =
            let cell = gate_is (slice_get cells gate) a_gate in
            record {
              same_job = agrees.same_job;
              same_node = agrees.same_node;
              sent = λ link there is from. omega (arith, agrees.sent link there is from, no_sent link (other_turn entry 0 1 turn (omega arith)));
              taken = λ link there is to. omega (arith, agrees.taken link there is to, no_taken link (other_turn entry 0 2 turn (omega arith)));
              holds = written_holds job node state agrees.holds entry at unfinished (inputs + gate) (gate_bit (slot state) (slice_get cells gate)) back (gate_right job node state agrees.holds entry at unfinished gate turn back cell.0 cell.1.0 cell.1.1) (omega (arith, gate_net, agrees.holds.size));
            }

      -- ---- a send

      module _ (link pin net : ℕ) (turn : is_sending entry ≡ true) (its_link : link ≡ entry.link) (its_pin : pin ≡ entry.place) (its_net : net ≡ entry.net) where
        pub sent_net : net < length state.slots
        sent_net = omega (arith, its.net, its_net, agrees.holds.size)

        there : (one : Link) × ((slice_get planned.board.links entry.link ≡ Some one) × (one.from ≡ entry.node))
        there = its.leaves turn

        leaves : slice_get planned.board.links link ≡ Some there.0
        leaves = ap (slice_get planned.board.links) its_link ∙ there.1.0

        right : slot state entry.net ≡ value_at job state.clock entry.net
        right =
            let nets : nets_read planned entry ≡ entry.net ∷ [] =
            ap (λ (first : Bool). if first then gate_inputs (driving_cell planned.ordered.flat entry.net) else (if is_sending entry then entry.net ∷ [] else [])) (other_turn entry 1 0 turn (omega arith))
            ∙ ap (λ (second : Bool). if second then entry.net ∷ [] else []) turn in
            let all : All (λ one. slot state one ≡ value_at job state.clock one) (entry.net ∷ []) = subst (All (λ (one : ℕ). slot state one ≡ value_at job state.clock one)) nets (reads_due job node state agrees.holds entry at unfinished) in
            all 0 0 (omega arith)

        -- its own node is that of the link
        own_node : there.0.from ≡ node
        own_node = there.1.1 ∙ own_at state.made entry at

        pub sent_next : (word : Word) → word.clock ≡ job.first + state.clock → word.net ≡ net → word.pin ≡ pin → word.bit ≡ slot state net
            → IsNextWord ends link word
        sent_next word clock one two bit =
            let same : word_at job state.clock entry ≡ word = λ i. record {
              clock = sym clock i;
              net = sym (one ∙ its_net) i;
              pin = sym (two ∙ its_pin) i;
              bit = sym (bit ∙ ap (slot state) its_net ∙ right) i;
            } in
            let sent_turn : is_sent link entry ≡ true = and_from (is_sending entry) (eqb entry.link link) turn (eq-eqb entry.link link (sym its_link)) in
            record {
              leaves = (there.0, leaves, own_node ∙ sym agrees.same_node);
              next = ap (slice_get (script job link)) (agrees.sent link there.0 leaves own_node) ∙ sent_word job node state entry at unfinished link there.0 leaves own_node sent_turn ∙ ap Some same;
            }

        pub sent_agrees : Agrees job node (moved_on state) (record ends { sent = counted_at link ends.sent })
        sent_agrees = record {
          same_job = agrees.same_job;
          same_node = agrees.same_node;
          sent = λ number other is from. omega (arith, agrees.sent number other is from, counted_by link number ends.sent (is_sending entry) turn, count_more (is_sent number) own state.made entry at, ap (λ (one : ℕ). one_if (is_sending entry && eqb one number)) its_link);
          taken = λ number other is to. omega (arith, agrees.taken number other is to, no_taken number (other_turn entry 1 2 turn (omega arith)));
          holds = sent_holds job node state agrees.holds entry at unfinished turn;
        }

      -- ---- a take

      module _ (link net : ℕ) (turn : is_taking entry ≡ true) (its_link : link ≡ entry.link) (its_net : net ≡ entry.net) where
        pub taken_net : net < length state.slots
        taken_net = omega (arith, its.net, its_net, agrees.holds.size)

        from : (one : Link) × ((slice_get planned.board.links entry.link ≡ Some one) × (one.to ≡ entry.node))
        from = its.reaches turn

        reaches : slice_get planned.board.links link ≡ Some from.0
        reaches = ap (slice_get planned.board.links) its_link ∙ from.1.0

        this_node : from.0.to ≡ node
        this_node = from.1.1 ∙ own_at state.made entry at

        next_word : slice_get (script job link) (ends.taken link) ≡ Some (word_at job state.clock entry)
        next_word =
            let taken_turn : is_taken link entry ≡ true = and_from (is_taking entry) (eqb entry.link link) turn (eq-eqb entry.link link (sym its_link)) in
            ap (slice_get (script job link)) (agrees.taken link from.0 reaches this_node) ∙ taken_word job node state entry at unfinished link from.0 reaches this_node taken_turn

        pub is_expected : IsExpected ends link
        is_expected = record {
          reaches = (from.0, reaches, this_node ∙ sym agrees.same_node);
          more = slice_get_within (script job link) (ends.taken link) (word_at job state.clock entry) next_word;
        }

        pub taken_agrees : (word : Word) → slice_get (script job link) (ends.taken link) ≡ Some word → Agrees job node (written state net word.bit) (record ends { taken = counted_at link ends.taken })
        taken_agrees word is =
            let same : word ≡ word_at job state.clock entry = cc (is, next_word) in
            let bit : word.bit ≡ value_at job state.clock net = ap (λ (one : Word). one.bit) same ∙ ap (value_at job state.clock) (sym its_net) in
            record {
              same_job = agrees.same_job;
              same_node = agrees.same_node;
              sent = λ number other there_is leaving. omega (arith, agrees.sent number other there_is leaving, no_sent number (other_turn entry 2 1 turn (omega arith)));
              taken = λ number other there_is reaching. omega (arith, agrees.taken number other there_is reaching, counted_by link number ends.taken (is_taking entry) turn, count_more (is_taken number) own state.made entry at, ap (λ (one : ℕ). one_if (is_taking entry && eqb one number)) its_link);
              holds = written_holds job node state agrees.holds entry at unfinished net word.bit (sym its_net) bit taken_net;
            }

    -- ---- the step

    pub stepped_agrees : state.made ≡ length own → Agrees job node (stepped job node state) ends
    stepped_agrees all = record {
      same_job = agrees.same_job;
      same_node = agrees.same_node;
      sent = λ link there is from. omega (arith, agrees.sent link there is from, all_sent job node state all link there is from);
      taken = λ link there is to. omega (arith, agrees.taken link there is to, all_taken job node state all link there is to);
      holds = stepped_holds job node state agrees.holds all unfinished;
    }
