-- A code that was made for a node stands for its actions.
use Rattle.std.proofs.Common.{◌≡◌, ◌<◌, ◌≤◌, ◌+◌, ◌-◌, ◌%◌, ◌&&◌, ◌||◌, ◌∷◌, ◌++◌, ◌^◌, ◌⊎◌, ℕ, zero, suc, min, Bool, true, false, not, List, [], length, map, take, get_or, eqb, nat_le, nat_lt, slice_get, Option, Some, None, if◌then◌else◌, ap, ap₂, refl, sym, subst, ◌∙◌, ⊎_elim, true≢false, eqb-true, eq-eqb, le-ltb, inl, inr, append_assoc, All, arith}
use Rattle.std.specs.Prelude.{option_map, unwrap_or}
use Rattle.std.specs.List.{AllByRecursion, list_any, range_with_len}
use Rattle.std.proofs.lemmas.Bool.{and_from, and_parts, leb-true, or_cases, or_left, or_right}
use Rattle.std.proofs.lemmas.List.{length-map, length-take}
use Rattle.std.proofs.lemmas.List.Elements.{All-from_recursion, All-take, filter_passes, recursion_from_All}
use Rattle.std.proofs.lemmas.Option.{slice_get-map, slice_get_within}
use Rattle.vw_net.specs.declared.cell.Cell.{Cell}
use Rattle.vw_net.specs.declared.cell.Cell.TheVariants.{Gate, Latch}
use Rattle.vw_net.specs.declared.cover.Cover.{Cover}
use Rattle.vw_net.specs.declared.flat.Flat.{Flat}
use Rattle.vw_net.specs.Order.{gate_inputs, is_among, is_gate, is_latch}
use Rattle.vw_net.specs.TruthTable.{truth_table as truth_table_of}
use Rattle.vw_net.proofs.FittingCells.{cell_fits}
use Rattle.vw_net.proofs.ListParts.{all_at}
use Rattle.vw_plan.specs.Nets.{driving_cell}
use Rattle.vw_plan.specs.PlannedBoard.{PlannedBoard, home}
use Rattle.vw_plan.specs.Sound.{IsSound}
use Rattle.vw_prog.specs.declared.action.Action.{Action}
use Rattle.vw_prog.specs.declared.action.Action.TheVariants as action
use Rattle.vw_prog.specs.declared.code.Code.{Code}
use Rattle.vw_prog.specs.declared.code.Op.{Op}
use Rattle.vw_prog.specs.declared.code.Op.TheVariants as op
use Rattle.vw_prog.specs.declared.code.WideGate.{WideGate}
use Rattle.vw_prog.specs.declared.entry.Entry.{Entry}
use Rattle.vw_prog.specs.declared.gates.PaddedGate.{PaddedGate}
use Rattle.vw_prog.specs.declared.owners.OwnLatch.{OwnLatch}
use Rattle.vw_prog.specs.declared.shift.LoopNet.{LoopNet}
use Rattle.vw_prog.specs.declared.shift.ShiftLoop.{ShiftLoop}
use Rattle.vw_prog.specs.Actions.{action_of, actions}
use Rattle.vw_prog.specs.Codes.{BeginsWithAction, HasSlot, IsCode, IsTableGate, IsWideGate, net_slot, taken_net}
use Rattle.vw_prog.specs.Coding.{IsCodeOf, action_gates, action_op, action_wide, all_gates, all_ops, gate_nets, cell_gates, cell_op, cell_wide, joined_ops, known_nets, named_all, no_slot, own_latch, read_at, slot_in, table_gate, take_nets, wide_gate}
use Rattle.vw_prog.specs.Due.{settles_net, is_due, is_source, own_latches, nets_read, recorded}
use Rattle.vw_prog.specs.Loops.{AreLoops, loop_place}
use Rattle.vw_prog.specs.SeenGates.{SeenGate, narrowed, seen_gates}
use Rattle.vw_prog.specs.Timetable.{entries_at, is_evaluating, is_sending, timetable}
use Rattle.vw_prog.proofs.DueReads.{finds_ends, finds_reads}
use Rattle.vw_prog.proofs.EntryParts.{entry_has}
use Rattle.vw_prog.proofs.JoinedOps.{Becomes, IsKept, all_ones, joined_at, joined_runs, kept_at, length-all_ops, length-joined}
use Rattle.vw_prog.proofs.LinkPasses.{turn_of}
use Rattle.vw_prog.proofs.ShiftLoops.{AllNets, OfSent, are_loops, nets_all}
use Rattle.vw_prog.proofs.NamedNets.{all_have_slots, below, first_slots}
use Rattle.vw_prog.proofs.OwnNets.{all_from, map_twice, own_latch_at, among_known, source_known, due_known, due_later}

-- a front that has all of a list, and some of the next
take_front : {X : Type 0} (count : ℕ) (xs ys : List X) → length xs ≤ count → take count (xs ++ ys) ≡ xs ++ take (count - length xs) ys
take_front count [] ys most = let all : count ≡ count - 0 = omega arith in ap (λ (many : ℕ). take many ys) all
take_front zero (x ∷ xs) ys most = absurd (omega (arith, most))
take_front (suc count) (x ∷ xs) ys most =
    let rest : count - length xs ≡ suc count - length (x ∷ xs) = omega arith in
    ap (λ (list : List _). x ∷ list) (take_front count xs ys (omega (arith, most))) ∙ ap (λ (many : ℕ). x ∷ (xs ++ take many ys)) rest

module _ (planned : PlannedBoard) (sound : IsSound planned) (node : ℕ) where
  abbrev flat : Flat
  flat = planned.ordered.flat

  abbrev inputs : ℕ
  inputs = flat.inputs

  abbrev count : ℕ
  count = inputs + length flat.cells

  abbrev own_entries : List Entry
  own_entries = entries_at node (timetable planned)

  abbrev program : List Action
  program = actions planned node

  abbrev own : List ℕ
  own = own_latches planned node

  abbrev latches : List OwnLatch
  latches = map (own_latch flat) own

  abbrev known : List ℕ
  known = known_nets inputs node latches program

  abbrev host_nets : List ℕ
  host_nets = if eqb node 0 then range_with_len 0 inputs else []

  -- ---- a code

  module _ (code : Code) (made : IsCodeOf flat node latches own_entries count code) where
    abbrev nets : List ℕ
    nets = code.nets.items

    abbrev table : List ℕ
    table = made.table

    -- the table has the slot of a net that is known
    known_slot : (net : ℕ) → net < count → is_among known net ≡ true → net_slot nets net ≡ Some (slot_in table net)
    known_slot net low among =
        let has : HasSlot nets net = subst (λ (list : List ℕ). HasSlot list net) (sym made.nets) (all_have_slots count [] known net low among) in
        let at : slot_in table net ≡ has.0 = made.is.slots net (omega (arith, low, made.long)) ∙ ap (λ (one : Option ℕ). unwrap_or one no_slot) has.1 in
        has.1 ∙ ap Some (sym at)

    abbrev IsIn : ℕ → Type 0
    IsIn net = net_slot nets net ≡ Some (slot_in table net)

    due_in : (net : ℕ) → net < count → is_due planned node own_entries net ≡ true → IsIn net
    due_in net low due = known_slot net low (due_known planned sound node net due)

    slots_map : (list : List ℕ) → AllByRecursion IsIn list → map (net_slot nets) list ≡ map Some (map (slot_in table) list)
    slots_map [] all = refl
    slots_map (net ∷ list) all = ap₂ (λ (one : Option ℕ) (rest : List (Option ℕ)). one ∷ rest) all.0 (slots_map list all.1)

    -- what an entry nets_read
    read_in : (place : ℕ) (entry : Entry) → slice_get own_entries place ≡ Some entry → (list : List ℕ) → nets_read planned entry ≡ list
        → All (λ net. net < count) list → AllByRecursion IsIn list
    read_in place entry at list are low =
        recursion_from_All IsIn list (λ spot default within.
        let finds : is_due planned node (take place own_entries) (get_or (nets_read planned entry) spot default) ≡ true = finds_reads planned sound node place entry at spot default (omega (arith, within, ap (λ (nets : List ℕ). length nets) are)) in
        due_in (get_or list spot default) (low spot default within) (due_later planned sound node place (get_or list spot default) (ap (λ (nets : List ℕ). is_due planned node (take place own_entries) (get_or nets spot default)) (sym are) ∙ finds)))

    -- ---- gates

    read_slot : (ins : List ℕ) → AllByRecursion IsIn ins → (place : ℕ) → 0 < length nets → read_at table (slice_get ins place) < length nets
    read_slot [] all place some = some
    read_slot (net ∷ ins) all zero some = below nets net (slot_in table net) all.0
    read_slot (net ∷ ins) all (suc place) some = read_slot ins all.1 place some

    six_slots : (ins : List ℕ) (inputs truth_table : ℕ) → length ins ≤ 6
        → (more : List ℕ) × ((table_gate table ins inputs truth_table).reads ≡ map (slot_in table) ins ++ more)
    six_slots [] inputs truth_table few = (0 ∷ 0 ∷ 0 ∷ 0 ∷ 0 ∷ 0 ∷ [], refl)
    six_slots (a ∷ []) inputs truth_table few = (0 ∷ 0 ∷ 0 ∷ 0 ∷ 0 ∷ [], refl)
    six_slots (a ∷ b ∷ []) inputs truth_table few = (0 ∷ 0 ∷ 0 ∷ 0 ∷ [], refl)
    six_slots (a ∷ b ∷ c ∷ []) inputs truth_table few = (0 ∷ 0 ∷ 0 ∷ [], refl)
    six_slots (a ∷ b ∷ c ∷ d ∷ []) inputs truth_table few = (0 ∷ 0 ∷ [], refl)
    six_slots (a ∷ b ∷ c ∷ d ∷ e ∷ []) inputs truth_table few = (0 ∷ [], refl)
    six_slots (a ∷ b ∷ c ∷ d ∷ e ∷ f ∷ []) inputs truth_table few = ([], refl)
    six_slots (a ∷ b ∷ c ∷ d ∷ e ∷ f ∷ g ∷ more) inputs truth_table few = absurd (omega (arith, few))

    module _ (number : ℕ) (ins : List ℕ) (cover : Cover) (is : slice_get flat.cells number ≡ Some (Gate ins cover)) (all : AllByRecursion IsIn ins) (own_in : IsIn (inputs + number)) where
      fits : (length ins ≡ cover.inputs) × All (λ net. net < count) ins
      fits = cell_fits count flat.cells number (Gate ins cover) flat.cells_fit is

      some_slot : 0 < length nets
      some_slot = let low = below nets (inputs + number) (slot_in table (inputs + number)) own_in in omega (arith, low)

      abbrev its_gate : PaddedGate
      its_gate = table_gate table ins cover.inputs (truth_table_of cover)

      -- with room for its inputs, or for more
      is_table_gate : cover.inputs ≤ 6 → (room : ℕ) → room ≤ 6 → cover.inputs ≤ room
          → IsTableGate flat nets number (narrowed room its_gate) (slot_in table (inputs + number))
      is_table_gate few room most enough =
          let six = six_slots ins cover.inputs (truth_table_of cover) (omega (arith, few, fits.0)) in
          let own = map (slot_in table) ins in
          let ins_in = all in
          let within = All-from_recursion (λ (slot : ℕ). slot < length nets) its_gate.reads (read_slot ins all 0 some_slot, (read_slot ins all 1 some_slot, (read_slot ins all 2 some_slot, (read_slot ins all 3 some_slot, (read_slot ins all 4 some_slot, (read_slot ins all 5 some_slot, tt)))))) in
          record {
            ins = ins;
            cover = cover;
            cell = is;
            own = own;
            more = take (room - length own) six.0;
            few = omega (arith, most, length-take room its_gate.reads);
            reads = ap (take room) six.1 ∙ take_front room own six.0 (omega (arith, enough, fits.0, length-map ins (slot_in table)));
            slots = slots_map ins ins_in;
            within = All-take (λ (slot : ℕ). slot < length nets) room its_gate.reads within;
            truth_table = refl;
            target = own_in;
          }

      is_wide_gate : IsWideGate flat nets number (wide_gate table number (inputs + number) ins)
      is_wide_gate = record { ins = ins; cover = cover; cell = is; same = refl; slots = slots_map ins all; target = own_in }

    -- ---- ops

    ops_are : List Op
    ops_are = all_ops flat table 0 0 [] program

    module _ (place : ℕ) (one : Action) (at : slice_get program place ≡ Some one) where
      kept : IsKept flat table program [] [] [] (all_ops flat table 0 0 [] program) place one
      kept = kept_at flat table program place one [] [] 0 0 [] refl refl at

      two : (second : Op) × (slice_get (joined_ops (all_ops flat table 0 0 [] program)) place ≡ Some second) × Becomes (action_op flat table kept.first kept.wide kept.sooner one) second
      two = joined_at (all_ops flat table 0 0 [] program) (all_ones flat table program 0 0 []) place (action_op flat table kept.first kept.wide kept.sooner one) kept.op_is

      its_op : slice_get code.ops.items place ≡ Some two.0
      its_op = ap (λ (ops : List Op). slice_get ops place) made.ops ∙ two.1

    -- the entry of an action
    entry_at : (place : ℕ) (one : Action) → slice_get program place ≡ Some one
        → ((entry : Entry) × ((slice_get own_entries place ≡ Some entry) × (one ≡ action_of inputs entry))) ⊎ (one ≡ action.Step)
    entry_at place one is = by own_entries place is where
      by : (entries : List Entry) (place : ℕ) → slice_get (map (action_of inputs) entries ++ action.Step ∷ []) place ≡ Some one
          → ((entry : Entry) × ((slice_get entries place ≡ Some entry) × (one ≡ action_of inputs entry))) ⊎ (one ≡ action.Step)
      by [] zero at = inr cc
      by [] (suc place) at = cc
      by (entry ∷ entries) zero at = let same : one ≡ action_of inputs entry = cc in inl (entry, (refl, same))
      by (entry ∷ entries) (suc place) at = by entries place at

    evaluating : (number : ℕ) (entry : Entry) → action.Evaluate number ≡ action_of inputs entry → (is_evaluating entry ≡ true) × (number ≡ entry.net - inputs)
    evaluating number entry is = turn (is_evaluating entry) (is_sending entry) refl is where
      turn : (first second : Bool) → is_evaluating entry ≡ first
          → action.Evaluate number ≡ (if first then action.Evaluate (entry.net - inputs) else (if second then action.Send entry.link entry.place entry.net else action.Take entry.link entry.place entry.net))
          → (is_evaluating entry ≡ true) × (number ≡ entry.net - inputs)
      turn true second one same = (one, cc)
      turn false true one same = cc
      turn false false one same = cc

    gate_cell : (cell : Option Cell) → is_gate cell ≡ true → (ins : List ℕ) × ((cover : Cover) × (cell ≡ Some (Gate ins cover)))
    gate_cell None is = absurd (true≢false (sym is))
    gate_cell (Some (Gate ins cover)) is = (ins, (cover, refl))
    gate_cell (Some (Latch d init)) is = absurd (true≢false (sym is))

    driven : (number : ℕ) (ins : List ℕ) (cover : Cover) → slice_get flat.cells number ≡ Some (Gate ins cover)
        → gate_inputs (driving_cell flat (inputs + number)) ≡ ins
    driven number ins cover is =
        let no : nat_lt (inputs + number) inputs ≡ false = le-ltb (inputs + number) inputs (omega arith) in
        let back : inputs + number - inputs ≡ number = omega arith in
        ap (λ (input : Bool). gate_inputs (if input then None else slice_get flat.cells (inputs + number - inputs))) no ∙ ap (λ (one : ℕ). gate_inputs (slice_get flat.cells one)) back ∙ ap gate_inputs is

    -- an entry that isn't a send makes its net due
    gives_due : (place : ℕ) (entry : Entry) → slice_get own_entries place ≡ Some entry → is_sending entry ≡ false
        → is_due planned node own_entries entry.net ≡ true
    gives_due place entry at apart = or_right (is_source planned node entry.net) (list_any (settles_net entry.net) own_entries) (found own_entries place at) where
      found : (entries : List Entry) (place : ℕ) → slice_get entries place ≡ Some entry → list_any (settles_net entry.net) entries ≡ true
      found [] place at = cc
      found (first ∷ entries) zero at =
          let same : first ≡ entry = cc in
          or_left (settles_net entry.net first) (list_any (settles_net entry.net) entries) (ap (settles_net entry.net) same ∙ and_from (not (is_sending entry)) (eqb entry.net entry.net) (ap not apart) (eq-eqb entry.net entry.net refl))
      found (first ∷ entries) (suc place) at = or_right (settles_net entry.net first) (list_any (settles_net entry.net) entries) (found entries place at)

    gate_begins : (place number : ℕ) (at : slice_get program place ≡ Some (action.Evaluate number)) (ins : List ℕ) (cover : Cover) (is : slice_get flat.cells number ≡ Some (Gate ins cover))
        → AllByRecursion IsIn ins → IsIn (inputs + number)
        → (second : Op) × (slice_get code.ops.items place ≡ Some second) × BeginsWithAction flat code (action.Evaluate number) second
    gate_begins place number at ins cover is all own_in =
        (second, its_op place (action.Evaluate number) at, by (nat_le cover.inputs 6) refl) where
          abbrev_kept : IsKept flat table program [] [] [] (all_ops flat table 0 0 [] program) place (action.Evaluate number)
          abbrev_kept = kept place (action.Evaluate number) at

          net_low : slice_get flat.cells number ≡ Some (Gate ins cover) → min (inputs + number) (2 ^ 32 - 1) ≡ inputs + number
          net_low there = let within = slice_get_within flat.cells number (Gate ins cover) there in omega (arith, within, flat.few_inputs, flat.few_cells)

          second : Op
          second = (two place (action.Evaluate number) at).0

          by : (few : Bool) → nat_le cover.inputs 6 ≡ few → BeginsWithAction flat code (action.Evaluate number) (two place (action.Evaluate number) at).0
          by true test =
              let op_is : action_op flat table (kept place (action.Evaluate number) at).first (kept place (action.Evaluate number) at).wide (kept place (action.Evaluate number) at).sooner (action.Evaluate number) ≡ op.Run (kept place (action.Evaluate number) at).first ((kept place (action.Evaluate number) at).first + 1) (slot_in table (inputs + number)) =
              ap (λ (net : ℕ). cell_op (slot_in table net) (kept place (action.Evaluate number) at).first (kept place (action.Evaluate number) at).wide (slice_get flat.cells number)) (net_low is) ∙ ap (cell_op (slot_in table (inputs + number)) (kept place (action.Evaluate number) at).first (kept place (action.Evaluate number) at).wide) is ∙ ap (λ (one : Bool). if one then op.Run (kept place (action.Evaluate number) at).first ((kept place (action.Evaluate number) at).first + 1) (slot_in table (inputs + number)) else op.Wide (kept place (action.Evaluate number) at).wide) test in
              let run = subst (λ (one : Op). Becomes one (two place (action.Evaluate number) at).0) op_is (two place (action.Evaluate number) at).2 in
              let gates : action_gates flat table (action.Evaluate number) ≡ its_gate number ins cover is all own_in ∷ [] = ap (cell_gates inputs table number) is ∙ ap (λ (one : Bool). if one then table_gate table ins cover.inputs (truth_table_of cover) ∷ [] else []) test in
              let few : cover.inputs ≤ 6 = leb-true cover.inputs 6 test in
              let first = (kept place (action.Evaluate number) at).first in
              let here : slice_get (all_gates flat table program) first ≡ Some (its_gate number ins cover is all own_in) = (kept place (action.Evaluate number) at).gate (its_gate number ins cover is all own_in) gates in
              let there : slice_get (seen_gates code.gates) first ≡ Some (narrowed made.gates.room (its_gate number ins cover is all own_in)) =
              ap (λ (list : List SeenGate). slice_get list first) made.gates.are ∙ slice_get-map (narrowed made.gates.room) (all_gates flat table program) first ∙ ap (option_map (narrowed made.gates.room)) here in
              subst (BeginsWithAction flat code (action.Evaluate number)) (sym run.1)
              (run.2, narrowed made.gates.room (its_gate number ins cover is all own_in), there, is_table_gate number ins cover is all own_in few made.gates.room made.gates.few (made.gates.enough first (its_gate number ins cover is all own_in) here few))
          by false test =
              let op_is : action_op flat table (kept place (action.Evaluate number) at).first (kept place (action.Evaluate number) at).wide (kept place (action.Evaluate number) at).sooner (action.Evaluate number) ≡ op.Wide (kept place (action.Evaluate number) at).wide =
              ap (λ (net : ℕ). cell_op (slot_in table net) (kept place (action.Evaluate number) at).first (kept place (action.Evaluate number) at).wide (slice_get flat.cells number)) (net_low is) ∙ ap (cell_op (slot_in table (inputs + number)) (kept place (action.Evaluate number) at).first (kept place (action.Evaluate number) at).wide) is ∙ ap (λ (one : Bool). if one then op.Run (kept place (action.Evaluate number) at).first ((kept place (action.Evaluate number) at).first + 1) (slot_in table (inputs + number)) else op.Wide (kept place (action.Evaluate number) at).wide) test in
              let is_op = subst (λ (one : Op). Becomes one (two place (action.Evaluate number) at).0) op_is (two place (action.Evaluate number) at).2 in
              let gates : action_wide flat table (action.Evaluate number) ≡ wide_gate table number (inputs + number) ins ∷ [] = ap (cell_wide inputs table number) is ∙ ap (λ (one : Bool). if one then [] else wide_gate table number (inputs + number) ins ∷ []) test in
              let there : slice_get code.wide.items (kept place (action.Evaluate number) at).wide ≡ Some (wide_gate table number (inputs + number) ins) = ap (λ (list : List WideGate). slice_get list (kept place (action.Evaluate number) at).wide) made.wide ∙ (kept place (action.Evaluate number) at).wide_gate (wide_gate table number (inputs + number) ins) gates in
              subst (BeginsWithAction flat code (action.Evaluate number)) (sym is_op) (wide_gate table number (inputs + number) ins, there, is_wide_gate number ins cover is all own_in)

    -- the net of a send has a slot
    sent_in : (place link pin net : ℕ) → slice_get program place ≡ Some (action.Send link pin net) → IsIn net
    sent_in place link pin net at =
        ⊎_elim (λ found.
        let entry = found.0 in
        let kind = sending link pin net entry found.1.1 in
        let parts = entry_has planned sound node place entry found.1.0 in
        let apart : is_evaluating entry ≡ false = turn_of (entry.moment % 3) 1 0 (eqb-true (entry.moment % 3) 1 kind.0) (omega arith) in
        let reads_are : nets_read planned entry ≡ entry.net ∷ [] =
        ap (λ (first : Bool). if first then gate_inputs (driving_cell flat entry.net) else (if is_sending entry then entry.net ∷ [] else [])) apart ∙ ap (λ (second : Bool). if second then entry.net ∷ [] else []) kind.0 in
        let all = read_in place entry found.1.0 (entry.net ∷ []) reads_are (All-from_recursion (λ (one : ℕ). one < count) (entry.net ∷ []) (parts.net, tt)) in
        subst IsIn (sym kind.1) all.0)
        (λ same. absurd (no_step same)) (entry_at place (action.Send link pin net) at) where
          no_step : action.Send link pin net ≡ action.Step → ⊥
          no_step same = cc

          sending : (link pin net : ℕ) (entry : Entry) → action.Send link pin net ≡ action_of inputs entry → (is_sending entry ≡ true) × (net ≡ entry.net)
          sending link pin net entry is = turn (is_evaluating entry) (is_sending entry) refl is where
            turn : (first second : Bool) → is_sending entry ≡ second
                → action.Send link pin net ≡ (if first then action.Evaluate (entry.net - inputs) else (if second then action.Send entry.link entry.place entry.net else action.Take entry.link entry.place entry.net))
                → (is_sending entry ≡ true) × (net ≡ entry.net)
            turn true second two same = cc
            turn false true two same = (two, cc)
            turn false false two same = cc

    begins : (place : ℕ) (one : Action) → slice_get program place ≡ Some one
        → (second : Op) × (slice_get code.ops.items place ≡ Some second) × BeginsWithAction flat code one second
    begins place (action.Evaluate number) at =
        ⊎_elim (λ found.
        let entry = found.0 in
        let turn = evaluating number entry found.1.1 in
        let parts = entry_has planned sound node place entry found.1.0 in
        let gate = parts.gate turn.0 in
        let net_is : entry.net ≡ inputs + number = omega (arith, gate.1.0, turn.1) in
        let same : gate.0 ≡ number = omega (arith, gate.1.0, turn.1) in
        let cell = gate_cell (slice_get flat.cells number) (ap (λ (one : ℕ). is_gate (slice_get flat.cells one)) (sym same) ∙ gate.1.1) in
        let reads_are : nets_read planned entry ≡ cell.0 =
        ap (λ (first : Bool). if first then gate_inputs (driving_cell flat entry.net) else (if is_sending entry then entry.net ∷ [] else [])) turn.0
        ∙ ap (λ (net : ℕ). gate_inputs (driving_cell flat net)) net_is ∙ driven number cell.0 cell.1.0 cell.1.1 in
        let all = read_in place entry found.1.0 cell.0 reads_are (cell_fits count flat.cells number (Gate cell.0 cell.1.0) flat.cells_fit cell.1.1).1 in
        let apart : is_sending entry ≡ false = turn_of (entry.moment % 3) 0 1 (eqb-true (entry.moment % 3) 0 turn.0) (omega arith) in
        let own_in : IsIn (inputs + number) = subst IsIn net_is (due_in entry.net parts.net (gives_due place entry found.1.0 apart)) in
        gate_begins place number at cell.0 cell.1.0 cell.1.1 all own_in)
        (λ same. absurd (no_step same)) (entry_at place (action.Evaluate number) at) where
          no_step : action.Evaluate number ≡ action.Step → ⊥
          no_step same = cc
    begins place (action.Send link pin net) at =
        let its = kept place (action.Send link pin net) at in
        let has = its.pin link pin net refl in (
          op.Send (loop_place link pin its.sooner),
          its_op place (action.Send link pin net) at ∙ ap Some (two place (action.Send link pin net) at).2,
          (has.0, ap (λ (loops : List ShiftLoop). slice_get loops (loop_place link pin its.sooner)) made.loops ∙ has.1, has.2, has.3),
        )
    begins place (action.Take link pin net) at =
        ⊎_elim (λ found.
        let entry = found.0 in
        let kind = taking link pin net entry found.1.1 in
        let parts = entry_has planned sound node place entry found.1.0 in
        let is_in : IsIn net = subst IsIn (sym kind.1) (due_in entry.net parts.net (gives_due place entry found.1.0 kind.0)) in
        (op.Take link pin (slot_in table net), its_op place (action.Take link pin net) at ∙ ap Some (two place (action.Take link pin net) at).2, (refl, refl, is_in)))
        (λ same. absurd (no_step same)) (entry_at place (action.Take link pin net) at) where
          no_step : action.Take link pin net ≡ action.Step → ⊥
          no_step same = cc

          taking : (link pin net : ℕ) (entry : Entry) → action.Take link pin net ≡ action_of inputs entry → (is_sending entry ≡ false) × (net ≡ entry.net)
          taking link pin net entry is = turn (is_evaluating entry) (is_sending entry) refl is where
            turn : (first second : Bool) → is_sending entry ≡ second
                → action.Take link pin net ≡ (if first then action.Evaluate (entry.net - inputs) else (if second then action.Send entry.link entry.place entry.net else action.Take entry.link entry.place entry.net))
                → (is_sending entry ≡ false) × (net ≡ entry.net)
            turn true second two same = cc
            turn false true two same = cc
            turn false false two same = (two, cc)
    begins place action.Step at = (op.Step, its_op place action.Step at ∙ ap Some (two place action.Step at).2, refl)

    -- ---- the slots of latches

    own_in : (net : ℕ) → is_among own net ≡ true → (is_latch (driving_cell flat net) && eqb (home planned net) node) ≡ true
    own_in net among = by own (recursion_from_All (λ (one : ℕ). (is_latch (driving_cell flat one) && eqb (home planned one) node) ≡ true) own (filter_passes (λ one. is_latch (driving_cell flat one) && eqb (home planned one) node) (range_with_len inputs (length flat.cells)))) among where
      by : (list : List ℕ) → AllByRecursion (λ one. (is_latch (driving_cell flat one) && eqb (home planned one) node) ≡ true) list
          → is_among list net ≡ true → (is_latch (driving_cell flat net) && eqb (home planned net) node) ≡ true
      by [] all among = absurd (true≢false (sym among))
      by (first ∷ list) all among = ⊎_elim (λ same. subst (λ (one : ℕ). (is_latch (driving_cell flat one) && eqb (home planned one) node) ≡ true) (eqb-true first net same) all.0) (λ later. by list all.1 later) (or_cases (eqb first net) (is_among list net) among)

    own_all : (P : ℕ → Type 0) → ((net : ℕ) → (is_latch (driving_cell flat net) && eqb (home planned net) node) ≡ true → P net) → AllByRecursion P own
    own_all P each = by own (recursion_from_All (λ (one : ℕ). (is_latch (driving_cell flat one) && eqb (home planned one) node) ≡ true) own (filter_passes (λ one. is_latch (driving_cell flat one) && eqb (home planned one) node) (range_with_len inputs (length flat.cells)))) where
      by : (list : List ℕ) → AllByRecursion (λ one. (is_latch (driving_cell flat one) && eqb (home planned one) node) ≡ true) list → AllByRecursion P list
      by [] all = tt
      by (net ∷ list) all = (each net all.0, by list all.1)

    latch_in : (net : ℕ) → (is_latch (driving_cell flat net) && eqb (home planned net) node) ≡ true → IsIn net
    latch_in net is =
        let at = own_latch_at planned sound node net is in
        known_slot net at.0 (among_known planned sound node net (or_left (is_among host_nets net || is_among own net) (is_among (gate_nets inputs program) net || is_among (take_nets program) net) (or_right (is_among host_nets net) (is_among own net) at.1)))

    taken_in : (net : ℕ) → (is_latch (driving_cell flat net) && eqb (home planned net) node) ≡ true → IsIn (taken_net (driving_cell flat net))
    taken_in net is =
        let parts = and_parts (is_latch (driving_cell flat net)) (eqb (home planned net) node) is in
        by (driving_cell flat net) refl parts.0 (eqb-true (home planned net) node parts.1) where
          by : (cell : Option Cell) → driving_cell flat net ≡ cell → is_latch cell ≡ true → home planned net ≡ node → IsIn (taken_net cell)
          by None at latch here = absurd (true≢false (sym latch))
          by (Some (Gate ins cover)) at latch here = absurd (true≢false (sym latch))
          by (Some (Latch d init)) at latch here =
              let low : d < count = d_low (nat_lt net inputs) at in
              due_in d low ((finds_ends planned sound node).inputs net d init at here) where
                d_low : (input : Bool) → (if input then None else slice_get flat.cells (net - inputs)) ≡ Some (Latch d init) → d < count
                d_low true at = cc
                d_low false at = (cell_fits count flat.cells (net - inputs) (Latch d init) flat.cells_fit at).1 0 0 (omega arith)

    map_in : (f : ℕ → ℕ) (list : List ℕ) → AllByRecursion (λ net. IsIn (f net)) list
        → map (λ net. net_slot nets (f net)) list ≡ map Some (map (λ net. slot_in table (f net)) list)
    map_in f [] all = refl
    map_in f (net ∷ list) all = ap₂ (λ (one : Option ℕ) (rest : List (Option ℕ)). one ∷ rest) all.0 (map_in f list all.1)

    recorded_in : AllByRecursion IsIn (recorded planned node)
    recorded_in = recursion_from_All IsIn (recorded planned node) (λ place default within. due_in (get_or (recorded planned node) place default) (low (eqb node 0) place default within) ((finds_ends planned sound node).records place default within)) where
      low : (host : Bool) → All (λ net. net < count) (if host then flat.outputs else own)
      low true = flat.outputs_fit
      low false = All-from_recursion (λ (net : ℕ). net < count) own (own_all (λ (net : ℕ). net < count) (λ net is. (own_latch_at planned sound node net is).0))

    records_are : code.records.items ≡ map (slot_in table) (recorded planned node)
    records_are = made.records ∙ by (eqb node 0) where
      by : (host : Bool)
          → (if host then map (slot_in table) flat.outputs else map (λ latch. slot_in table latch.net) latches) ≡ map (slot_in table) (if host then flat.outputs else own)
      by true = refl
      by false = map_twice (λ (latch : OwnLatch). slot_in table latch.net) (own_latch flat) own

    -- ---- shift loops

    all_sent : AllByRecursion (λ (one : ShiftLoop). AllByRecursion (λ (item : LoopNet). net_slot nets item.net ≡ Some item.slot) one.nets) code.loops.items
    all_sent =
        subst (AllNets table (λ item. net_slot nets item.net ≡ Some item.slot)) (sym made.loops)
        (nets_all table (λ item. net_slot nets item.net ≡ Some item.slot) program (all_from (OfSent table (λ item. net_slot nets item.net ≡ Some item.slot)) program by) [] tt) where
          by : (place : ℕ) (one : Action) → slice_get program place ≡ Some one → OfSent table (λ item. net_slot nets item.net ≡ Some item.slot) one
          by place (action.Evaluate number) at = refl
          by place (action.Send link pin net) at = sent_in place link pin net at
          by place (action.Take link pin net) at = refl
          by place action.Step at = refl

    pub stands : IsCode planned node program code
    stands = record {
      count = ap (λ (ops : List Op). length ops) made.ops ∙ length-joined (all_ops flat table 0 0 [] program) ∙ length-all_ops flat table program 0 0 [];
      begins = begins;
      runs = λ place first end slot at more.
          ap (λ (ops : List Op). slice_get ops (place + 1)) made.ops
          ∙ joined_runs (all_ops flat table 0 0 [] program) (all_ones flat table program 0 0 []) place first end slot (ap (λ (ops : List Op). slice_get ops place) (sym made.ops) ∙ at) more;
      loops = subst (AreLoops program) (sym made.loops) (are_loops table program);
      sends = λ place one at.
          All-from_recursion (λ (item : LoopNet). net_slot nets item.net ≡ Some item.slot) one.nets
          (all_at (λ (one : ShiftLoop). AllByRecursion (λ (item : LoopNet). net_slot nets item.net ≡ Some item.slot) one.nets) code.loops.items place one all_sent at);
      sources = λ net is. let known_net = source_known planned sound node net is in (slot_in table net, known_slot net known_net.0 known_net.1);
      host = λ is net low.
          let rest = map (λ (latch : OwnLatch). latch.net) latches ++ gate_nets inputs program ++ take_nets program in
          let front : known ≡ range_with_len 0 inputs ++ rest =
          ap (λ (one : Bool). (if one then range_with_len 0 inputs else []) ++ map (λ (latch : OwnLatch). latch.net) latches ++ gate_nets inputs program ++ take_nets program) (eq-eqb node 0 is)
          ∙ regroup (range_with_len 0 inputs) (map (λ (latch : OwnLatch). latch.net) latches) (gate_nets inputs program) (take_nets program) in
          ap (λ (list : List ℕ). net_slot list net) (made.nets ∙ ap (named_all count []) front)
          ∙ first_slots inputs count 0 [] rest (omega arith) refl (λ other past. refl) (λ other under. absurd (omega (arith, under))) net (omega (arith, low));
      records = slots_map (recorded planned node) recorded_in ∙ ap (map Some) (sym records_are);
      latches = slots_map own (own_all IsIn latch_in) ∙ ap (map Some) (sym (made.latches ∙ map_twice (λ (latch : OwnLatch). slot_in table latch.net) (own_latch flat) own));
      inputs = map_in (λ (net : ℕ). taken_net (driving_cell flat net)) own (own_all (λ (net : ℕ). IsIn (taken_net (driving_cell flat net))) taken_in) ∙ ap (map Some) (sym (made.inputs ∙ map_twice (λ (latch : OwnLatch). slot_in table latch.taken) (own_latch flat) own));
      numbers = made.numbers ∙ map_twice (λ (latch : OwnLatch). latch.number) (own_latch flat) own;
    } where
      regroup : (one two three four : List ℕ) → one ++ two ++ three ++ four ≡ one ++ (two ++ three ++ four)
      regroup one two three four = append_assoc (one ++ two) three four ∙ append_assoc one two (three ++ four) ∙ ap (λ (rest : List ℕ). one ++ rest) (sym (append_assoc two three four))
