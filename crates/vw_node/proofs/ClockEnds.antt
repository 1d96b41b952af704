-- What the start and the end of a clock make of a node.
use Rattle.std.proofs.Common.{◌≡◌, ◌<◌, ◌≤◌, ◌+◌, ◌-◌, ◌&&◌, ◌∷◌, ◌++◌, ℕ, Bool, true, false, List, [], length, map, take, get_or, eqb, nat_lt, replicate, set, slice_get, if◌then◌else◌, ap, ap₂, refl, sym, subst, ◌∙◌, ⊎_elim, Option, Some, None, All, arith}
use Rattle.std.specs.List.{range_with_len}
use Rattle.std.proofs.lemmas.Bool.{and_parts, cases_lt}
use Rattle.std.proofs.lemmas.List.{ext_get_or, get_or-replicate, get_or_past, length-map, length-replicate, length-set, take_more_set}
use Rattle.std.proofs.lemmas.List.Elements.{All-set, filter_passes}
use Rattle.vw_net.specs.declared.cell.Cell.{Cell}
use Rattle.vw_net.specs.declared.cell.Cell.TheVariants.{Gate, Latch}
use Rattle.vw_net.specs.Cells.{latch_count}
use Rattle.vw_net.specs.Order.{is_latch}
use Rattle.vw_net.proofs.FittingCells.{cell_fits}
use Rattle.vw_net.proofs.DrivenValues.{map_agree}
use Rattle.vw_plan.specs.Nets.{driving_cell}
use Rattle.vw_plan.specs.PlannedBoard.{PlannedBoard, home}
use Rattle.vw_prog.specs.declared.action.Action.{Action}
use Rattle.vw_prog.specs.declared.action.Action.TheVariants as action
use Rattle.vw_prog.specs.declared.code.Code.{Code}
use Rattle.vw_prog.specs.declared.code.Op.{Op}
use Rattle.vw_prog.specs.declared.code.Op.TheVariants as op
use Rattle.vw_prog.specs.declared.job.Job.{Job}
use Rattle.vw_prog.specs.declared.job.Share.{Share}
use Rattle.vw_prog.specs.Actions.{actions}
use Rattle.vw_prog.specs.Codes.{BeginsWithAction, IsCode, net_slot, taken_net}
use Rattle.vw_prog.specs.Due.{own_latches, recorded}
use Rattle.vw_prog.specs.Ends.{SeenEnds}
use Rattle.vw_prog.specs.Loops.{Stand}
use Rattle.vw_prog.specs.Scripts.{planned_of}
use Rattle.vw_prog.specs.Timetable.{entries_at, is_evaluating, is_sending, timetable}
use Rattle.vw_prog.proofs.LoopTurns.{stand_again, stand_on}
use Rattle.vw_node.specs.declared.node.Node.{Node}
use Rattle.vw_node.specs.declared.step.Step.TheVariants.{Moved}
use Rattle.vw_node.specs.Fits.{FitsJob, IsShare, bit_by, bit_at_slot, slot_bit, state_of}
use Rattle.vw_node.specs.Lists.{tabulate}
use Rattle.vw_node.specs.Moves.{MakesSome}
use Rattle.vw_node.specs.Positions.{Agrees}
use Rattle.vw_net.proofs.WrittenBits.{length-with_bits}
use Rattle.vw_net.specs.Steps.WrittenBits.{with_bits}
use Rattle.vw_node.specs.Slots.{NamesSlots, row_at, with_row}
use Rattle.vw_node.specs.Starts.{net_count}
use Rattle.vw_node.specs.States.{NodeState, input_bit, kept_bit, latch_bit, latch_number, slot, start_bit, stepped, stepped_bit}
use Rattle.vw_node.proofs.EntryKinds.{next_entry}
use Rattle.vw_node.proofs.Held.{latch_is, latch_within}
use Rattle.vw_node.proofs.MovesOn.{makes_one}
use Rattle.vw_node.proofs.NodeSteps.{next_of, stepped_agrees}
use Rattle.vw_node.proofs.OpActions.{op_begins}
use Rattle.vw_node.proofs.SlotBits.{bits_are, slots_long, slots_within}
use Rattle.vw_node.proofs.SourceBits.{latch_or, length-with_row, row_is, source_bit}
use Rattle.vw_node.proofs.StepAnswers.{AtWork, actions_long, many_are, moved_to, op_is, unfinished}
use Rattle.vw_node.proofs.Values.{get_or-tabulate, length-tabulate}

map_twice : {A B C : Type 0} (g : B → C) (f : A → B) (xs : List A) → map g (map f xs) ≡ map (λ x. g (f x)) xs
map_twice g f [] = refl
map_twice g f (x ∷ xs) = ap (λ (rest : List _). g (f x) ∷ rest) (map_twice g f xs)

-- what a node records are nets
pub records_within : (job : Job) (node : ℕ) → All (λ net. net < job.checked.ordered.flat.inputs + length job.checked.ordered.flat.cells) (recorded (planned_of job) node)
records_within job node = by (eqb node 0) where
  by : (host : Bool) → All (λ net. net < job.checked.ordered.flat.inputs + length job.checked.ordered.flat.cells) (if host then job.checked.ordered.flat.outputs else own_latches (planned_of job) node)
  by true = job.checked.ordered.flat.outputs_fit
  by false = λ place default within.
      let flat = job.checked.ordered.flat in
      let net = get_or (own_latches (planned_of job) node) place default in
      let passes = filter_passes (λ one. is_latch (driving_cell flat one) && eqb (home (planned_of job) one) node) (range_with_len flat.inputs (length flat.cells)) place default within in
      let cell = latch_is job node (driving_cell flat net) (and_parts (is_latch (driving_cell flat net)) (eqb (home (planned_of job) net) node) passes).0 in
      latch_within job node net cell.0 cell.1.0 cell.1.1

tabulate_same : (each other : ℕ → Bool) (count : ℕ) → ((place : ℕ) → place < count → each place ≡ other place) → tabulate each count ≡ tabulate other count
tabulate_same each other count agree =
    ext_get_or false (tabulate each count) (tabulate other count) (length-tabulate each count ∙ sym (length-tabulate other count)) (λ place below.
    let under : place < count = omega (arith, below, length-tabulate each count) in
    get_or-tabulate each count place false under ∙ agree place under ∙ sym (get_or-tabulate other count place false under))

-- what a code of a node names are slots that there are
pub names_slots : (planned : PlannedBoard) (node : ℕ) (program : List Action) (code : Code) → IsCode planned node program code → NamesSlots (length code.nets.items) code
names_slots planned node program code is =
    record {
      latches = slots_within nets own code.latches.items is.latches;
      inputs = slots_within nets (map taken own) code.inputs.items inputs_map;
      records = slots_within nets (recorded planned node) code.records.items is.records;
      paired = sym (slots_long nets (map taken own) code.inputs.items inputs_map) ∙ length-map own taken ∙ slots_long nets own code.latches.items is.latches;
      numbered = ap (λ (list : List ℕ). length list) is.numbers ∙ length-map own number ∙ slots_long nets own code.latches.items is.latches;
    } where
      nets : List ℕ
      nets = code.nets.items

      own : List ℕ
      own = own_latches planned node

      taken : ℕ → ℕ
      taken net = taken_net (driving_cell planned.ordered.flat net)

      number : ℕ → ℕ
      number net = latch_count (take (net - planned.ordered.flat.inputs) planned.ordered.flat.cells)

      inputs_map : map (net_slot nets) (map taken own) ≡ map Some code.inputs.items
      inputs_map = map_twice (net_slot nets) taken own ∙ is.inputs

-- ---- a code of the job's node

module _ (job : Job) (share : Share) (is : IsShare job share) (code : Code) (is_code : IsCode (planned_of job) share.node (actions (planned_of job) share.node) code) where
  abbrev node : ℕ
  node = share.node

  abbrev nets : List ℕ
  nets = code.nets.items

  abbrev own : List ℕ
  own = own_latches (planned_of job) node

  abbrev all_nets : ℕ
  all_nets = job.checked.ordered.flat.inputs + length job.checked.ordered.flat.cells

  inputs_map : map (net_slot nets) (map (λ net. taken_net (driving_cell job.checked.ordered.flat net)) own) ≡ map Some code.inputs.items
  inputs_map = map_twice (net_slot nets) (λ (net : ℕ). taken_net (driving_cell job.checked.ordered.flat net)) own ∙ is_code.inputs

  -- the bits of latches that take the values of a function, with a row of inputs
  abbrev sourced : (ℕ → Bool) → ℕ → List Bool → List Bool
  sourced value clock bits = with_bits code.latches.items (map value own) (with_row (row_at share clock) bits)

  sourced_bit : (value : ℕ → Bool) (clock : ℕ) (bits : List Bool) → length bits ≡ length nets → (net : ℕ) → bit_by nets (sourced value clock bits) net
      ≡ (if eqb (home (planned_of job) net) node then (if nat_lt net job.checked.ordered.flat.inputs then input_bit (slice_get job.rows clock) net (bit_by nets bits net) else latch_or (value net) (bit_by nets bits net) (driving_cell job.checked.ordered.flat net)) else bit_by nets bits net)
  sourced_bit value clock bits long net =
      ap (λ (row : Option (List Bool)). bit_by nets (with_bits code.latches.items (map value own) (with_row row bits)) net) (row_is job share is clock)
      ∙ source_bit job node code is_code bits long clock value net

  pub length-sourced : (others : List Bool) (clock : ℕ) (bits : List Bool) → length bits ≡ length nets → length (with_bits code.latches.items others (with_row (row_at share clock) bits)) ≡ length nets
  length-sourced others clock bits long =
      length-with_bits code.latches.items others (with_row (row_at share clock) bits)
      ∙ ap (λ (row : Option (List Bool)). length (with_row row bits)) (row_is job share is clock) ∙ length-with_row job node code is_code bits long clock

  -- ---- the start

  pub start_slots_are : (bits : List Bool) → bits ≡ replicate (length nets) false
      → tabulate (bit_by nets (with_bits code.latches.items (map (bit_at_slot share.start.now) code.numbers.items) (with_row (row_at share 0) bits))) all_nets ≡ tabulate (start_bit job node) all_nets
  start_slots_are bits zeros =
      ap (λ (others : List Bool). tabulate (bit_by nets (with_bits code.latches.items others (with_row (row_at share 0) bits))) all_nets) values
      ∙ tabulate_same (bit_by nets (sourced value 0 bits)) (start_bit job node) all_nets (λ net within. sourced_bit value 0 bits long net ∙ same net) where
        value : ℕ → Bool
        value net = bit_at_slot job.start (latch_number job net)

        values : map (bit_at_slot share.start.now) code.numbers.items ≡ map value own
        values = ap₂ (λ (start : List Bool) (numbers : List ℕ). map (bit_at_slot start) numbers) is.start is_code.numbers ∙ map_twice (bit_at_slot job.start) (latch_number job) own

        long : length bits ≡ length nets
        long = ap (λ (list : List Bool). length list) zeros ∙ length-replicate (length nets) false

        none : (net : ℕ) → bit_by nets bits net ≡ false
        none net = by (net_slot nets net) where
          by : (slot : Option ℕ) → slot_bit bits slot ≡ false
          by None = refl
          by (Some place) = ap (λ (list : List Bool). get_or list place false) zeros ∙ zero_at (length nets) place where
            zero_at : (count place : ℕ) → get_or (replicate count false) place false ≡ false
            zero_at count place = ⊎_elim (λ (within : place < count). get_or-replicate count place false false within) (λ (past : count ≤ place). get_or_past (replicate count false) place false (omega (arith, past, length-replicate count false))) (cases_lt place count)

        same : (net : ℕ) → (if eqb (home (planned_of job) net) node then (if nat_lt net job.checked.ordered.flat.inputs then input_bit (slice_get job.rows 0) net (bit_by nets bits net) else latch_or (value net) (bit_by nets bits net) (driving_cell job.checked.ordered.flat net)) else bit_by nets bits net) ≡ start_bit job node net
        same net =
            ap (λ (own : Bool). if eqb (home (planned_of job) net) node then (if nat_lt net job.checked.ordered.flat.inputs then input_bit (slice_get job.rows 0) net own else latch_or (value net) own (driving_cell job.checked.ordered.flat net)) else own) (none net)
            ∙ ap (λ (bit : Bool). if eqb (home (planned_of job) net) node then (if nat_lt net job.checked.ordered.flat.inputs then input_bit (slice_get job.rows 0) net false else bit) else false) (by (driving_cell job.checked.ordered.flat net)) where
              by : (cell : Option Cell) → latch_or (value net) false cell ≡ kept_bit job.start (latch_number job net) cell
              by None = refl
              by (Some (Gate ins cover)) = refl
              by (Some (Latch d init)) = refl

  -- ---- the step

  module _ (many clock made : ℕ) (bits : List Bool) (rows : List (List Bool)) (count : many ≡ all_nets) (long : length bits ≡ length nets) where
    abbrev now : NodeState
    now = record { clock = clock; made = made; slots = tabulate (bit_by nets bits) many; rows = rows }

    slot_now : (net : ℕ) → net < all_nets → slot now net ≡ bit_by nets bits net
    slot_now net within = get_or-tabulate (bit_by nets bits) many net false (omega (arith, within, count))

    pub recorded_now : map (bit_at_slot bits) code.records.items ≡ map (slot now) (recorded (planned_of job) node)
    recorded_now =
        bits_are nets bits (recorded (planned_of job) node) code.records.items is_code.records
        ∙ map_agree (bit_by nets bits) (slot now) (recorded (planned_of job) node) (λ place default within. sym (slot_now (get_or (recorded (planned_of job) node) place default) (records_within job node place default within)))

    pub stepped_now : tabulate (bit_by nets (with_bits code.latches.items (map (bit_at_slot bits) code.inputs.items) (with_row (row_at share (clock + 1)) bits))) many ≡ tabulate (stepped_bit job node now) (length now.slots)
    stepped_now =
        ap (λ (others : List Bool). tabulate (bit_by nets (with_bits code.latches.items others (with_row (row_at share (clock + 1)) bits))) many) values
        ∙ tabulate_same (bit_by nets (sourced value (clock + 1) bits)) (stepped_bit job node now) many (λ net within. sourced_bit value (clock + 1) bits long net ∙ same net (omega (arith, within, count)))
        ∙ ap (tabulate (stepped_bit job node now)) (sym (length-tabulate (bit_by nets bits) many)) where
          value : ℕ → Bool
          value net = bit_by nets bits (taken_net (driving_cell job.checked.ordered.flat net))

          values : map (bit_at_slot bits) code.inputs.items ≡ map value own
          values = bits_are nets bits (map (λ net. taken_net (driving_cell job.checked.ordered.flat net)) own) code.inputs.items inputs_map ∙ map_twice (bit_by nets bits) (λ (net : ℕ). taken_net (driving_cell job.checked.ordered.flat net)) own

          latch : (net : ℕ) (cell : Option Cell) (input : Bool) → nat_lt net job.checked.ordered.flat.inputs ≡ input → driving_cell job.checked.ordered.flat net ≡ cell → latch_or (value net) (bit_by nets bits net) cell ≡ latch_bit (slot now) (bit_by nets bits net) cell
          latch net None input test at = refl
          latch net (Some (Gate ins cover)) input test at = refl
          latch net (Some (Latch d init)) true test at = let none : None ≡ Some (Latch d init) = ap (λ (input : Bool). if input then None else slice_get job.checked.ordered.flat.cells (net - job.checked.ordered.flat.inputs)) (sym test) ∙ at in cc
          latch net (Some (Latch d init)) false test at =
              let there : slice_get job.checked.ordered.flat.cells (net - job.checked.ordered.flat.inputs) ≡ Some (Latch d init) = ap (λ (input : Bool). if input then None else slice_get job.checked.ordered.flat.cells (net - job.checked.ordered.flat.inputs)) (sym test) ∙ at in
              let within : d < all_nets = (cell_fits all_nets job.checked.ordered.flat.cells (net - job.checked.ordered.flat.inputs) (Latch d init) job.checked.ordered.flat.cells_fit there).1 0 0 (omega arith) in
              ap (λ (cell : Option Cell). bit_by nets bits (taken_net cell)) at ∙ sym (slot_now d within)

          same : (net : ℕ) → net < all_nets → (if eqb (home (planned_of job) net) node then (if nat_lt net job.checked.ordered.flat.inputs then input_bit (slice_get job.rows (clock + 1)) net (bit_by nets bits net) else latch_or (value net) (bit_by nets bits net) (driving_cell job.checked.ordered.flat net)) else bit_by nets bits net) ≡ stepped_bit job node now net
          same net within =
              ap (λ (bit : Bool). if eqb (home (planned_of job) net) node then (if nat_lt net job.checked.ordered.flat.inputs then input_bit (slice_get job.rows (clock + 1)) net (bit_by nets bits net) else bit) else bit_by nets bits net) (latch net (driving_cell job.checked.ordered.flat net) (nat_lt net job.checked.ordered.flat.inputs) refl refl)
              ∙ ap (λ (own : Bool). if eqb (home (planned_of job) net) node then (if nat_lt net job.checked.ordered.flat.inputs then input_bit (slice_get job.rows (clock + 1)) net own else latch_bit (slot now) own (driving_cell job.checked.ordered.flat net)) else own) (sym (slot_now net within))

-- ---- the node

module _ {ends : SeenEnds} {old : Node} (works : AtWork ends old) where
  abbrev fits : FitsJob ends.job old
  fits = works.fits

  pub row_there : old.clock < length old.rows
  row_there = omega (arith, fits.count, unfinished works)

  pub end_slots : NamesSlots (length old.slots.items) old.code.now
  end_slots = subst (λ (count : ℕ). NamesSlots count old.code.now) (sym fits.slots) (names_slots (planned_of ends.job) old.share.node (actions (planned_of ends.job) old.share.node) old.code.now fits.code)

  module _ {read : Op} (found : read ≡ get_or old.code.now.ops.items old.made read) (is : read ≡ op.Step) where
    step_next : slice_get (actions (planned_of ends.job) old.share.node) old.made ≡ Some action.Step
    step_next =
        let found = op_begins ends old.share.node old.code.now fits.code old.made op.Step (op_is works found is) in
        by found.0 found.1.0 found.1.1 where
          by : (one : Action) → slice_get (actions (planned_of ends.job) old.share.node) old.made ≡ Some one → BeginsWithAction ends.job.checked.ordered.flat old.code.now one op.Step → slice_get (actions (planned_of ends.job) old.share.node) old.made ≡ Some action.Step
          by (action.Evaluate number) at begins = absurd begins
          by (action.Send link pin net) at begins = absurd begins
          by (action.Take link pin net) at begins = absurd begins
          by action.Step at begins = at

    all_made : old.made ≡ length (entries_at old.share.node (timetable (planned_of ends.job)))
    all_made = ⊎_elim (λ found. absurd (no_step (found.0.net - ends.job.checked.ordered.flat.inputs) found.0.net found.0.link found.0.place (is_evaluating found.0) (is_sending found.0) found.1.1)) (λ last. last.0) (next_entry (planned_of ends.job) old.share.node old.made works.agrees.holds.under action.Step step_next) where
      no_step : (gate net link pin : ℕ) (first second : Bool) → action.Step ≡ (if first then action.Evaluate gate else (if second then action.Send link pin net else action.Take link pin net)) → ⊥
      no_step gate net link pin true second same = cc
      no_step gate net link pin false true same = cc
      no_step gate net link pin false false same = cc

    -- and no action is left behind it
    op_last : length (actions (planned_of ends.job) old.share.node) ≤ old.made + 1
    op_last = omega (arith, all_made, actions_long works)

  module _ {new : Node} (rest : new ≡ record old { clock = old.clock + 1; made = 0; slots = new.slots; next = new.next; rows = new.rows })
      (slots : new.slots.items ≡ with_bits old.code.now.latches.items (map (bit_at_slot old.slots.items) old.code.now.inputs.items) (with_row (row_at old.share (old.clock + 1)) old.slots.items)) (next : length new.next.items ≡ length old.next.items)
      (rows : new.rows ≡ set old.rows old.clock (map (bit_at_slot old.slots.items) old.code.now.records.items)) where
    abbrev line : List Bool
    line = map (bit_at_slot old.slots.items) old.code.now.records.items

    same_share : new.share ≡ old.share
    same_share = ap (λ (one : Node). one.share) rest

    same_code : new.code.now ≡ old.code.now
    same_code = ap (λ (one : Node). one.code.now) rest

    pub end_fits : {read : Op} → read ≡ get_or old.code.now.ops.items old.made read → read ≡ op.Step → FitsJob ends.job new
    end_fits found is = record {
      share = subst (IsShare ends.job) (sym same_share) fits.share;
      code = subst (λ (share : Share). IsCode (planned_of ends.job) share.node (actions (planned_of ends.job) share.node) new.code.now) (sym same_share) (subst (IsCode (planned_of ends.job) old.share.node (actions (planned_of ends.job) old.share.node)) (sym same_code) fits.code);
      loops =
          let program = actions (planned_of ends.job) old.share.node in
          let here = stand_on program old.code.now.loops.items old.made old.places.items fits.loops action.Step (step_next found is) (λ link pin. refl) in
          let all : length program ≤ old.made + 1 = omega (arith, op_last found is) in
          let again = stand_again program old.code.now.loops.items (old.made + 1) old.places.items here fits.code.loops all in
          subst (λ (one : Node). Stand (actions (planned_of ends.job) one.share.node) one.code.now.loops.items one.made one.places.items) (sym rest) again;
      slots = ap (λ (bits : List Bool). length bits) slots ∙ length-sourced ends.job old.share fits.share old.code.now fits.code (map (bit_at_slot old.slots.items) old.code.now.inputs.items) (old.clock + 1) old.slots.items fits.slots ∙ ap (λ (code : Code). length code.nets.items) (sym same_code);
      next = next ∙ fits.next ∙ ap (λ (code : Code). length code.latches.items) (sym same_code);
      count = ap (λ (lines : List (List Bool)). length lines) rows ∙ length-set old.rows old.clock line ∙ fits.count;
      wide =
          let long : length line ≡ length old.code.now.records.items = length-map old.code.now.records.items (bit_at_slot old.slots.items) in
          let wide_now : All (λ row. length row ≡ length old.code.now.records.items) (set old.rows old.clock line) = All-set (λ row. length row ≡ length old.code.now.records.items) old.rows old.clock line long fits.wide in
          subst (λ (code : Code). All (λ row. length row ≡ length code.records.items) new.rows) (sym same_code) (subst (All (λ row. length row ≡ length old.code.now.records.items)) (sym rows) wide_now);
    }

    end_state : state_of new ≡ stepped ends.job old.share.node (state_of old)
    end_state =
        ap state_of rest
        ∙ ap₂ (λ (bits : List Bool) (lines : List (List Bool)). let state : NodeState = record { clock = old.clock + 1; made = 0; slots = tabulate (bit_by old.code.now.nets.items bits) (net_count old.share); rows = take (old.clock + 1) lines } in state) slots rows
        ∙ ap₂ (λ (all : List Bool) (lines : List (List Bool)). let state : NodeState = record { clock = old.clock + 1; made = 0; slots = all; rows = lines } in state)
        (stepped_now ends.job old.share fits.share old.code.now fits.code (net_count old.share) old.clock old.made old.slots.items (take old.clock old.rows) (many_are works) fits.slots)
        (take_more_set old.rows old.clock line row_there
        ∙ ap (λ (bits : List Bool). take old.clock old.rows ++ bits ∷ []) (recorded_now ends.job old.share fits.share old.code.now fits.code (net_count old.share) old.clock old.made old.slots.items (take old.clock old.rows) (many_are works) fits.slots))

    module _ {read : Op} (found : read ≡ get_or old.code.now.ops.items old.made read) (is : read ≡ op.Step) where
      pub end_agrees : Agrees ends.job new.share.node (state_of new) ends
      end_agrees = moved_to works new (stepped ends.job old.share.node (state_of old)) ends same_share end_state (stepped_agrees ends old.share.node (state_of old) works.agrees (unfinished works) (all_made found is))

      pub end_makes : (whole : Bool) → MakesSome ends.job old.share.node (state_of old) (state_of new) ends ends whole Moved
      end_makes whole = makes_one ends.job old.share.node (state_of old) (state_of new) ends ends whole (action.Step, next_of ends old.share.node (state_of old) works.agrees (unfinished works) action.Step (step_next found is), (end_state, refl)) works.agrees.holds
