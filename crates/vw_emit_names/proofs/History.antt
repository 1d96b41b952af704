-- An emitted board, as a design, is a run of its nodes; so it shows its design.
use Rattle.std.proofs.Common.{◌≡◌, ◌<◌, ◌≤◌, ◌+◌, ◌^◌, ◌++◌, ◌||◌, ◌∙◌, ℕ, zero, suc, Bool, true, false, not, cond, List, [], ◌∷◌, length, map, take, get_or, slice_get, slice_index, slice_index_or, Option, Some, option_map, filter, ap, ap₂, refl, sym, append-nil, add-one, arith}
use Rattle.std.specs.List.{list_any, range_with_len}
use Rattle.std.specs.Str.{bytes_eq}
use Rattle.std.proofs.lemmas.Bool.{false_from_ne_true}
use Rattle.std.proofs.lemmas.List.{map-append}
use Rattle.std.proofs.lemmas.List.FromFn.{get_or-range_with_len, length-map-range_with_len, length-range_with_len}
use Rattle.std.proofs.lemmas.Option.{get_or_from_slice_get, slice_get_within}
use Rattle.std.proofs.lemmas.Simd.{map-map}
use Rattle.vw_net.specs.Cells.{latch_count, start_value}
use Rattle.vw_net.specs.Cover.{cover_value}
use Rattle.vw_net.specs.Gathered.{listed}
use Rattle.vw_net.specs.Mark.{row_matches}
use Rattle.vw_net.specs.declared.cell.Cell.{Cell}
use Rattle.vw_net.specs.declared.cell.Cell.TheVariants.{Gate as GateCell, Latch as LatchCell}
use Rattle.vw_net.specs.declared.cell.Init.{Init}
use Rattle.vw_net.specs.declared.cover.Cover.{Cover}
use Rattle.vw_net.specs.declared.cover.Mark.{Mark}
use Rattle.vw_net.specs.declared.cover.Row.{Row}
use Rattle.vw_net.proofs.ListedLists.{stands_below}
use Rattle.vw_plan.specs.PlannedBoard.{PlannedBoard}
use Rattle.vw_plan.specs.Sound.{IsSound}
use Rattle.vw_plan.specs.declared.link.Link.{Link}
use Rattle.vw_design.specs.Clocks.{columns, inputs_of}
use Rattle.vw_design.specs.Distinct.{has_name}
use Rattle.vw_design.specs.Drivers.{at_cell, driver}
use Rattle.vw_design.specs.Limits.{IsSmall}
use Rattle.vw_design.specs.NetReads.{net_at, root_outputs}
use Rattle.vw_design.specs.PathHistory.{path_next, path_outputs, path_outputs_from, path_start, path_state_after}
use Rattle.vw_design.specs.PathValue.{bit_at, item_at, path_value, place_of_name}
use Rattle.vw_design.specs.Paths.{Net, Word, model_at, model_outputs}
use Rattle.vw_design.specs.declared.design.Design.{Design}
use Rattle.vw_design.specs.declared.item.Edge.{Edge}
use Rattle.vw_design.specs.declared.item.Item.{Item}
use Rattle.vw_design.specs.declared.item.Item.TheVariants.{Latch, Names, Sub}
use Rattle.vw_design.proofs.LatchPlaces.{latch_place}
use Rattle.vw_design.proofs.LoopFree.{gate_value}
use Rattle.vw_design.proofs.Names.{name_same, same_name}
use Rattle.vw_design.proofs.NetValues.{column_value, first_value, same_value, value_after}
use Rattle.vw_emit_hardware.specs.Locals.{Local, column, kept, pin_in, pin_out, register, result, table as local_table}
use Rattle.vw_emit_hardware.specs.Ports.{IsUsed}
use Rattle.vw_emit_hardware.specs.Run.{IsItem, IsRun, Values}
use Rattle.vw_emit_hardware.specs.Shown.{held_rows, last_microclock, shown_latch, shown_latches, shown_outputs}
use Rattle.vw_emit_hardware.specs.Tables.{table_value}
use Rattle.vw_emit_hardware.proofs.AllRows.{shows_latches, shows_outputs}
use Rattle.vw_emit_hardware.proofs.HeldRows.{row_held}
use Rattle.vw_emit_names.specs.Boards.{IsBoardOf, PlainItem, PlainModel, latch, place, plain_item, spelled_item, table}
use Rattle.vw_emit_names.specs.Shows.{ActsAs, own_history}
use Rattle.vw_emit_names.specs.Spelled.{shown_net, spelled}
use Rattle.vw_emit_names.proofs.Codes.{spelled_once}
use Rattle.vw_emit_names.proofs.Drivers.{column_driver, has_item, item_driver, pin_driver}
use Rattle.vw_emit_names.proofs.Models.{mapped_at, root, root_at}
use Rattle.vw_emit_names.proofs.NetFaults.{accepted, clocks_none, latch_net, loop_free, result_net}
use Rattle.vw_emit_names.proofs.PlacedFaults.{faultless}

-- ---- states and outputs along rows

module _ (design : Design) where
  -- the state after one more row
  state_further : (rows : List (List Bool)) (state : List Bool) (time : ℕ) → time < length rows
      → path_state_after design state (take (suc time) rows) ≡ path_next design (get_or rows time []) (path_state_after design state (take time rows))
  state_further [] state time inside = absurd (omega (arith, inside))
  state_further (row ∷ rows) state zero inside = refl
  state_further (row ∷ rows) state (suc time) inside = state_further rows (path_next design row state) time (omega (arith, inside))

  -- the outputs at a time
  outputs_at_time : (rows : List (List Bool)) (state : List Bool) (time : ℕ) → time < length rows
      → slice_get (path_outputs_from design [] state rows) time ≡ Some (path_outputs design [] (get_or rows time []) (path_state_after design state (take time rows)))
  outputs_at_time [] state time inside = absurd (omega (arith, inside))
  outputs_at_time (row ∷ rows) state zero inside = refl
  outputs_at_time (row ∷ rows) state (suc time) inside = outputs_at_time rows (path_next design row state) time (omega (arith, inside))

-- ---- lists

-- what each number of a range gives, by what a list has there
of_range : {A : Type 0} (f : ℕ → A) (count : ℕ) (xs : List A) → map f (range_with_len 0 count) ≡ xs → (k : ℕ) (x : A)
    → slice_get xs k ≡ Some x → (k < count) × (f k ≡ x)
of_range f count xs same k x at =
    let found = mapped_at f (range_with_len 0 count) xs same k x at in
    let inside = slice_get_within (range_with_len 0 count) k found.0 found.1 in
    let below : k < count = omega (arith, inside, length-range_with_len 0 count) in
    let number : found.0 ≡ k = sym (get_or_from_slice_get (range_with_len 0 count) k found.0 0 found.1) ∙ get_or-range_with_len 0 count k 0 below ∙ plain k in
    (below, ap f (sym number) ∙ found.2) where
      plain : (n : ℕ) → 0 + n ≡ n
      plain n = omega arith

-- numbered elements that give one by their numbers alone
listed_range : {A B : Type 0} (f : ℕ → B) (number : ℕ) (xs : List A) → listed (λ k x. f k ∷ []) number xs ≡ map f (range_with_len number (length xs))
listed_range f number [] = refl
listed_range f number (x ∷ xs) = ap (λ (rest : List _). f number ∷ rest) (listed_range f (suc number) xs ∙ ap (λ (from : ℕ). map f (range_with_len from (length xs))) (sym (add-one number)))

range_agree : {B : Type 0} (f g : ℕ → B) (from count : ℕ) → ((k : ℕ) → from ≤ k → k < from + count → f k ≡ g k)
    → map f (range_with_len from count) ≡ map g (range_with_len from count)
range_agree f g from zero agree = refl
range_agree f g from (suc count) agree =
    ap₂ (λ (first : _) (rest : List _). first ∷ rest) (agree from (omega arith) (omega arith)) (range_agree f g (from + 1) count (λ k late below. agree k (omega (arith, late)) (omega (arith, below))))

-- the column of a number, among columns
column_place : (from count k : ℕ) → k < count → from + count < 2 ^ 64
    → place_of_name (map (λ n. spelled (column n)) (range_with_len from count)) (spelled (column (from + k))) ≡ Some k
column_place from zero k below small = absurd (omega (arith, below))
column_place from (suc count) zero below small =
    let none : from + 0 ≡ from = omega arith in
    ap (λ (n : ℕ). place_of_name (map (λ m. spelled (column m)) (range_with_len from (suc count))) (spelled (column n))) none
    ∙ ap (λ (test : Bool). cond test (Some zero) (option_map (λ (p : ℕ). suc p) (place_of_name (map (λ m. spelled (column m)) (range_with_len (from + 1) count)) (spelled (column from))))) (name_same (spelled (column from)))
column_place from (suc count) (suc k) below small =
    let other : bytes_eq (spelled (column from)) (spelled (column (from + suc k))) ≡ false = false_from_ne_true (bytes_eq (spelled (column from)) (spelled (column (from + suc k)))) (λ same.
    let equal = spelled_once (column from) (column (from + suc k)) (omega (arith, small), tt) (omega (arith, small, below), tt) (same_name (spelled (column from)) (spelled (column (from + suc k))) same) in
    let numbers = ap column_number equal in
    omega (arith, numbers)) in
    let next : from + suc k ≡ from + 1 + k = omega arith in
    ap (λ (test : Bool). cond test (Some zero) (option_map (λ (p : ℕ). suc p) (place_of_name (map (λ m. spelled (column m)) (range_with_len (from + 1) count)) (spelled (column (from + suc k)))))) other
    ∙ ap (option_map (λ (p : ℕ). suc p)) (ap (λ (n : ℕ). place_of_name (map (λ m. spelled (column m)) (range_with_len (from + 1) count)) (spelled (column n))) next ∙ column_place (from + 1) count k (omega (arith, below)) (omega (arith, small))) where
      column_number : Local → ℕ
      column_number (column n) = n
      column_number other_net = 0

-- ---- tables

same_rows : (bits : List Bool) (rows : List Row)
    → list_any (λ row. row_matches row.marks bits) rows ≡ list_any (λ marks. row_matches marks bits) (map (λ row. row.marks) rows)
same_rows bits [] = refl
same_rows bits (row ∷ rows) = ap (λ (found : Bool). row_matches row.marks bits || found) (same_rows bits rows)

-- a cover has the value of a table with its rows
cover_is_table : (cover : Cover) (on : Bool) (marks : List (List Mark)) (bits : List Bool) → cover.on ≡ on
    → map (λ row. row.marks) cover.rows ≡ marks → cover_value cover bits ≡ table_value on marks bits
cover_is_table cover on marks bits same_on same_marks =
    ap (λ (found : Bool). cond found cover.on (not cover.on)) (same_rows bits cover.rows)
    ∙ ap₂ (λ (o : Bool) (ms : List (List Mark)). cond (list_any (λ m. row_matches m bits) ms) o (not o)) same_on same_marks

module _ (planned : PlannedBoard) (sound : IsSound planned) (board : Design) (is_board : IsBoardOf planned board) (small : IsSmall board) (unknown : Bool) (rows : List (List Bool)) where
  abbrev row_at : ℕ → List Bool
  row_at time = get_or rows time []

  abbrev state_at : ℕ → List Bool
  state_at time = path_state_after board (path_start unknown board) (take time rows)

  -- the bits of the board's nets
  abbrev value : Values
  value time node net = path_value board (row_at time) (state_at time) (suc node ∷ []) (spelled net)

  -- ---- tables and registers

  table_is : (time node number : ℕ) (ins : List Local) (out : Local) (on : Bool) (marks : List (List Mark)) (item : Item)
      → item_at board (suc node ∷ []) number ≡ Some item → plain_item item ≡ table (map spelled ins) (spelled out) on marks
      → driver board (suc node ∷ []) (spelled out) ≡ Some (at_cell (suc node ∷ []) number)
      → value time node out ≡ table_value on marks (map (value time node) ins)
  table_is time node number ins out on marks (Names line reads_these drives_this cover) at same drives_it =
      gate_value board (accepted planned sound board is_board small) (loop_free planned sound board is_board small) (row_at time) (state_at time) (suc node ∷ []) (spelled out) (suc node ∷ []) number line reads_these drives_this cover drives_it at
      ∙ cover_is_table cover on marks (map (path_value board (row_at time) (state_at time) (suc node ∷ [])) reads_these) (ap on_of same) (ap marks_of same)
      ∙ ap (λ (list : List Word). table_value on marks (map (path_value board (row_at time) (state_at time) (suc node ∷ [])) list)) (ap ins_of same)
      ∙ ap (table_value on marks) (map-map (path_value board (row_at time) (state_at time) (suc node ∷ [])) spelled ins) where
        ins_of : PlainItem → List Word
        ins_of (table i o b m) = i
        ins_of (latch d q edge control init) = []
        ins_of (place model binds) = []

        on_of : PlainItem → Bool
        on_of (table i o b m) = b
        on_of (latch d q edge control init) = true
        on_of (place model binds) = true

        marks_of : PlainItem → List (List Mark)
        marks_of (table i o b m) = m
        marks_of (latch d q edge control init) = []
        marks_of (place model binds) = []
  table_is time node number ins out on marks (Latch line d q edge control init) at same drives_it = cc
  table_is time node number ins out on marks (Sub line model binds) at same drives_it = cc

  -- the latch that a register is
  record IsLatchItem (node number : ℕ) (next : Local) (init : Init) : Type 0 where
    line : ℕ
    d : Word
    q : Word
    edge : Edge
    control : Option Word
    at : item_at board (suc node ∷ []) number ≡ Some (Latch line d q edge control init)
    reads_it : d ≡ spelled next

  latch_item : (node number : ℕ) (next own : Local) (init : Init) (item : Item) → item_at board (suc node ∷ []) number ≡ Some item
      → plain_item item ≡ spelled_item (register next own init) → IsLatchItem node number next init
  latch_item node number next own init (Names line ins out cover) at same = cc
  latch_item node number next own init (Latch line d q edge control start) at same =
      let init_is : start ≡ init = ap init_of same in
      record { line = line; d = d; q = q; edge = edge; control = control; at = at ∙ ap (λ (one : Init). Some (Latch line d q edge control one)) init_is; reads_it = ap d_of same } where
        init_of : PlainItem → Init
        init_of (table i o b m) = start
        init_of (latch d q edge control one) = one
        init_of (place model binds) = start

        d_of : PlainItem → Word
        d_of (table i o b m) = []
        d_of (latch one q edge control init) = one
        d_of (place model binds) = []
  latch_item node number next own init (Sub line model binds) at same = cc

  -- ---- columns

  all_kept : (names : List Word) → filter (λ name. not (has_name [] name)) names ≡ names
  all_kept [] = refl
  all_kept (name ∷ names) = ap (λ (rest : List Word). name ∷ rest) (all_kept names)

  columns_are : columns board ≡ map (λ n. spelled (column n)) (range_with_len 0 planned.ordered.flat.inputs)
  unfolding columns
  columns_are =
      ap (λ (ports : List Word). filter (λ name. not (has_name ports name)) (inputs_of (model_at board []))) (clocks_none planned sound board is_board small)
      ∙ all_kept (inputs_of (model_at board []))
      ∙ ap inputs_of (root_at planned board is_board) ∙ ap (λ (m : PlainModel). m.inputs) (root planned board is_board).1.same

  column_is : (time number : ℕ) (row : List Bool) → slice_get rows time ≡ Some row → number < planned.ordered.flat.inputs
      → value time 0 (column number) ≡ slice_index_or row number false
  column_is time number row at within =
      let few = planned.ordered.flat.few_inputs in
      let none : 0 + number ≡ number = omega arith in
      let place_is : place_of_name (columns board) (spelled (column number)) ≡ Some number =
      ap (λ (list : List Word). place_of_name list (spelled (column number))) columns_are
      ∙ ap (λ (n : ℕ). place_of_name (map (λ m. spelled (column m)) (range_with_len 0 planned.ordered.flat.inputs)) (spelled (column n))) (sym none)
      ∙ column_place 0 planned.ordered.flat.inputs number within (omega (arith, few)) in
      column_value board (row_at time) (state_at time) (suc 0 ∷ []) (spelled (column number)) (spelled (column number)) (column_driver planned sound board is_board (faultless planned sound board is_board small) number within)
      ∙ ap (bit_at (row_at time)) place_is ∙ ap (λ (r : List Bool). slice_index_or r number false) (get_or_from_slice_get rows time row [] at)

  -- ---- a run

  pub is_run : IsRun planned unknown rows value
  is_run = record { columns = column_is; tables = tables; starts = starts; steps = steps; pins = pins } where
    tables : (time node : ℕ) (ins : List Local) (out : Local) (on : Bool) (marks : List (List Mark)) → time < length rows
        → IsItem planned node (local_table ins out on marks) → value time node out ≡ table_value on marks (map (value time node) ins)
    tables time node ins out on marks inside item =
        let own = has_item planned sound board is_board node item.place (local_table ins out on marks) item.among item.stands in
        table_is time node item.place ins out on marks own.item own.at own.same (item_driver planned sound board is_board node item.place (local_table ins out on marks) item.among item.stands)

    latch_of : (node : ℕ) (next own : Local) (init : Init) → (item : IsItem planned node (register next own init)) → IsLatchItem node item.place next init
    latch_of node next own init item =
        let there = has_item planned sound board is_board node item.place (register next own init) item.among item.stands in
        latch_item node item.place next own init there.item there.at there.same

    starts : (node : ℕ) (next own : Local) (init : Init) → 0 < length rows → IsItem planned node (register next own init)
        → value 0 node own ≡ start_value unknown init
    starts node next own init some item =
        let is = latch_of node next own init item in
        let spot = latch_place board (faultless planned sound board is_board small) (suc node ∷ []) item.place (Latch is.line is.d is.q is.edge is.control init) is.at refl in
        first_value board (suc node ∷ []) item.place is.line is.d is.q is.edge is.control init spot unknown (row_at 0) (suc node ∷ []) (spelled own) (item_driver planned sound board is_board node item.place (register next own init) item.among item.stands) is.at

    steps : (time node : ℕ) (next own : Local) (init : Init) → suc time < length rows → IsItem planned node (register next own init)
        → value (suc time) node own ≡ value time node next
    steps time node next own init inside item =
        let is = latch_of node next own init item in
        let spot = latch_place board (faultless planned sound board is_board small) (suc node ∷ []) item.place (Latch is.line is.d is.q is.edge is.control init) is.at refl in
        ap (λ (state : List Bool). path_value board (row_at (suc time)) state (suc node ∷ []) (spelled own)) (state_further board rows (path_start unknown board) time (omega (arith, inside)))
        ∙ value_after board (suc node ∷ []) item.place is.line is.d is.q is.edge is.control init spot (row_at time) (state_at time) (row_at (suc time)) (suc node ∷ []) (spelled own)
        (item_driver planned sound board is_board node item.place (register next own init) item.among item.stands) is.at
        ∙ ap (path_value board (row_at time) (state_at time) (suc node ∷ [])) is.reads_it

    pins : (time number pin : ℕ) (link : Link) → time < length rows → slice_get planned.board.links number ≡ Some link
        → IsUsed planned link pin → value time link.to (pin_in number pin) ≡ value time link.from (pin_out number pin)
    pins time number pin link inside linked used =
        same_value board (row_at time) (state_at time) (suc link.to ∷ []) (spelled (pin_in number pin)) (suc link.from ∷ []) (spelled (pin_out number pin))
        (pin_driver planned sound board is_board (faultless planned sound board is_board small) number pin link linked used)

  -- ---- what it shows

  -- the board's outputs are those of the host and the latches of the chips
  latches_are : (time from number : ℕ) (cells : List Cell) → ((k d : ℕ) (init : Init) → slice_get cells k ≡ Some (LatchCell d init)
      → path_value board (row_at time) (state_at time) [] (shown_net (number + latch_count (take k cells))) ≡ value time (slice_index planned.plan.chip_of (from + k)) (kept (from + k)))
      → map (λ k. path_value board (row_at time) (state_at time) [] (shown_net k)) (range_with_len number (latch_count cells)) ≡ listed (shown_latch planned value time) from cells
  latches_are time from number [] agree = refl
  latches_are time from number (GateCell ins cover ∷ cells) agree =
      latches_are time (suc from) number cells (λ k d init at. let next : from + suc k ≡ suc from + k = omega arith in agree (suc k) d init at ∙ ap (λ (c : ℕ). value time (slice_index planned.plan.chip_of c) (kept c)) next)
  latches_are time from number (LatchCell e other ∷ cells) agree =
      let none : number ≡ number + 0 = omega arith in
      let none_from : from + 0 ≡ from = omega arith in
      ap₂ (λ (first : Bool) (rest : List Bool). first ∷ rest)
      (ap (λ (n : ℕ). path_value board (row_at time) (state_at time) [] (shown_net n)) none ∙ agree 0 e other refl ∙ ap (λ (c : ℕ). value time (slice_index planned.plan.chip_of c) (kept c)) none_from)
      (latches_are time (suc from) (number + 1) cells (λ k d init at.
      let next : from + suc k ≡ suc from + k = omega arith in
      let count : number + 1 + latch_count (take k cells) ≡ number + suc (latch_count (take k cells)) = omega arith in
      ap (λ (n : ℕ). path_value board (row_at time) (state_at time) [] (shown_net n)) count ∙ agree (suc k) d init at ∙ ap (λ (c : ℕ). value time (slice_index planned.plan.chip_of c) (kept c)) next))

  shown : (time : ℕ) → path_outputs board [] (row_at time) (state_at time) ≡ shown_outputs planned value time ++ shown_latches planned value time
  shown time =
      let at = path_value board (row_at time) (state_at time) [] in
      let flat = planned.ordered.flat in
      let results = map (λ output. spelled (result output)) (range_with_len 0 (length flat.outputs)) in
      let latches = map shown_net (range_with_len 0 (latch_count flat.cells)) in
      let outputs : model_outputs (model_at board []) ≡ results ++ latches = ap model_outputs (root_at planned board is_board) ∙ ap (λ (m : PlainModel). m.outputs) (root planned board is_board).1.same in
      ap (map (λ (net : Net). path_value board (row_at time) (state_at time) net.path net.name)) (append-nil (root_outputs board))
      ∙ map-map (λ (net : Net). path_value board (row_at time) (state_at time) net.path net.name) (net_at []) (model_outputs (model_at board []))
      ∙ ap (map at) outputs ∙ map-append at results latches
      ∙ ap₂ (λ (a b : List Bool). a ++ b)
      (map-map at (λ output. spelled (result output)) (range_with_len 0 (length flat.outputs))
      ∙ range_agree (λ output. at (spelled (result output))) (λ output. value time 0 (result output)) 0 (length flat.outputs) (λ k late below. same_value board (row_at time) (state_at time) [] (spelled (result k)) (suc 0 ∷ []) (spelled (result k)) (result_net planned sound board is_board small k (omega (arith, below))))
      ∙ sym (listed_range (λ output. value time 0 (result output)) 0 flat.outputs))
      (map-map at shown_net (range_with_len 0 (latch_count flat.cells)) ∙ latches_are time 0 0 flat.cells (λ k d init there.
      let none : 0 + k ≡ k = omega arith in
      let none_count : 0 + latch_count (take k flat.cells) ≡ latch_count (take k flat.cells) = omega arith in
      ap (λ (n : ℕ). at (shown_net n)) none_count
      ∙ same_value board (row_at time) (state_at time) [] (shown_net (latch_count (take k flat.cells))) (suc (slice_index planned.plan.chip_of k) ∷ []) (spelled (kept k)) (latch_net planned sound board is_board small k d init there)
      ∙ ap (λ (c : ℕ). value time (slice_index planned.plan.chip_of c) (kept c)) (sym none)))

-- ---- at the last microclock of each clock

pub acts_as : (planned : PlannedBoard) (sound : IsSound planned) (board : Design) (is_board : IsBoardOf planned board) (small : IsSmall board) (unknown : Bool) (rows : List (List Bool))
    → ActsAs planned board unknown rows
acts_as planned sound board is_board small unknown rows = record { at_last = at_last } where
  at_last : (clock : ℕ) (outputs state : List Bool) → slice_get (own_history planned unknown rows).outputs clock ≡ Some outputs
      → slice_get (own_history planned unknown rows).states clock ≡ Some state
      → slice_get (path_outputs_from board [] (path_start unknown board) (held_rows planned rows)) (last_microclock planned clock) ≡ Some (outputs ++ state)
  at_last clock outputs state outputs_at state_at_clock =
      let held = held_rows planned rows in
      let run = is_run planned sound board is_board small unknown held in
      let bits = value planned sound board is_board small unknown held in
      let first = of_range (λ one. shown_outputs planned bits (last_microclock planned one)) (length rows) (own_history planned unknown rows).outputs (shows_outputs planned sound unknown rows bits run) clock outputs outputs_at in
      let second = of_range (λ one. shown_latches planned bits (last_microclock planned one)) (length rows) (own_history planned unknown rows).states (shows_latches planned sound unknown rows bits run) clock state state_at_clock in
      let row = stands_below rows clock first.0 in
      let inside = slice_get_within held (last_microclock planned clock) row.0 (row_held planned rows clock row.0 planned.plan.period row.1 (omega arith)) in
      outputs_at_time board held (path_start unknown board) (last_microclock planned clock) inside
      ∙ ap (λ (all : List Bool). Some all) (shown planned sound board is_board small unknown held (last_microclock planned clock) ∙ ap₂ (λ (a b : List Bool). a ++ b) first.1 second.1)

-- there is a run
pub has_run : (planned : PlannedBoard) (board : Design) → IsSound planned → IsBoardOf planned board → IsSmall board
    → (unknown : Bool) (rows : List (List Bool)) → (bits : Values) × IsRun planned unknown rows bits
has_run planned board sound is_board small unknown rows = (value planned sound board is_board small unknown rows, is_run planned sound board is_board small unknown rows)

-- and as many columns as the planned netlist has inputs
pub has_columns : (planned : PlannedBoard) (board : Design) → IsSound planned → IsBoardOf planned board → IsSmall board
    → length (columns board) ≡ planned.ordered.flat.inputs
has_columns planned board sound is_board small =
    ap (λ (names : List Word). length names) (columns_are planned sound board is_board small false [])
    ∙ length-map-range_with_len (λ n. spelled (column n)) 0 planned.ordered.flat.inputs
