-- The bits of the inputs and latches of a node, when they are written together.
use Rattle.std.proofs.Common.{◌≡◌, ◌<◌, ◌≤◌, ◌+◌, ◌-◌, ◌&&◌, ◌∷◌, ◌++◌, ℕ, zero, suc, Bool, true, false, List, length, map, get_or, drop, take, min, cond, eqb, nat_lt, slice_get, slice_index, if◌then◌else◌, Bor, ap, ap₂, refl, sym, subst, ◌∙◌, ⊎_elim, true≢false, eq-eqb, eqb-true, Option, Some, None, option_map, arith}
use Rattle.std.specs.List.{filter, range_with_len}
use Rattle.std.specs.Option.{option_and_then}
use Rattle.std.proofs.lemmas.Bool.{and_from, and_parts, cases_Bool, cases_eq, cases_lt, ltb-false, ltb-true}
use Rattle.std.proofs.lemmas.List.{get_or-append_right, get_or-drop, get_or_append_left, length-append, length-drop, take_all}
use Rattle.std.proofs.lemmas.List.Elements.{filter_passes, recursion_from_All}
use Rattle.std.proofs.lemmas.Option.{get_or_from_slice_get, slice_get_within}
use Rattle.vw_net.specs.declared.cell.Cell.{Cell}
use Rattle.vw_net.specs.declared.cell.Cell.TheVariants.{Gate, Latch}
use Rattle.vw_net.specs.declared.flat.Flat.{Flat}
use Rattle.vw_net.specs.Order.{is_latch}
use Rattle.vw_plan.specs.Nets.{driving_cell}
use Rattle.vw_plan.specs.PlannedBoard.{PlannedBoard, home}
use Rattle.vw_prog.specs.declared.code.Code.{Code}
use Rattle.vw_prog.specs.declared.job.Job.{Job}
use Rattle.vw_prog.specs.declared.job.Share.{Share}
use Rattle.vw_prog.specs.Actions.{actions}
use Rattle.vw_prog.specs.Codes.{IsCode, net_slot}
use Rattle.vw_prog.specs.Due.{own_latches}
use Rattle.vw_prog.specs.Scripts.{planned_of}
use Rattle.vw_node.specs.Fits.{IsShare, bit_by, slot_bit}
use Rattle.vw_net.specs.Steps.WrittenBits.{with_bits}
use Rattle.vw_node.specs.Slots.{row_at, with_row}
use Rattle.vw_node.specs.States.{input_bit}
use Rattle.vw_node.proofs.Held.{latch_is, latch_within}
use Rattle.vw_node.proofs.SlotBits.{is_one, many_written, none_at, slot_apart, slot_within}

-- a number of a range that passes a test is among those that do
pub one_in_range : (test : ℕ → Bool) (count first net : ℕ) → first ≤ net → net < first + count → test net ≡ true
    → is_one (filter test (range_with_len first count)) net ≡ true
one_in_range test zero first net from to passes = absurd (omega (arith, from, to))
one_in_range test (suc count) first net from to passes =
    let more = filter test (range_with_len (first + 1) count) in
    let if_first = λ (same : net ≡ first).
    let kept : test first ≡ true = ap test (sym same) ∙ passes in
    ap (λ (keep : Bool). is_one (cond keep (first ∷ more) more) net) kept ∙ ap (λ (is : Bool). if is then true else is_one more net) (eq_test net first same) in
    let if_later = λ (later : net ≡ first → ⊥).
    let rest = one_in_range test count (first + 1) net (omega (arith, from, later)) (omega (arith, to)) passes in
    by (test first) rest in
    ⊎_elim if_first if_later (cases_eq net first) where
      eq_test : (one other : ℕ) → one ≡ other → eqb one other ≡ true
      eq_test one other same = eq-eqb one other same

      by : (keep : Bool) → is_one (filter test (range_with_len (first + 1) count)) net ≡ true
          → is_one (cond keep (first ∷ filter test (range_with_len (first + 1) count)) (filter test (range_with_len (first + 1) count))) net ≡ true
      by false there = there
      by true there = inner (eqb net first) there where
        inner : (same : Bool) → is_one (filter test (range_with_len (first + 1) count)) net ≡ true
            → (if same then true else is_one (filter test (range_with_len (first + 1) count)) net) ≡ true
        inner true there = refl
        inner false there = there

-- the row of a clock is the host's alone
pub row_is : (job : Job) (share : Share) → IsShare job share → (clock : ℕ) → row_at share clock ≡ (if eqb share.node 0 then slice_get job.rows clock else None)
row_is job share is clock = by share.rows (eqb share.node 0) is.rows where
  by : (rows_in : Option (Bor (List (List Bool)))) (host : Bool)
      → option_map (λ rows. rows.now) rows_in ≡ (if host then Some job.rows else None)
      → option_and_then (λ rows. slice_get rows.now clock) rows_in ≡ (if host then slice_get job.rows clock else None)
  by None true at = cc
  by None false at = refl
  by (Some own) true at = let same : own.now ≡ job.rows = cc in ap (λ (list : List (List Bool)). slice_get list clock) same
  by (Some own) false at = cc

-- a row that has room
row_put : (line bits : List Bool) → length line ≤ length bits → with_row (Some line) bits ≡ line ++ drop (length line) bits
row_put line bits room =
    let count : min (length line) (length bits) ≡ length line = omega (arith, room) in
    ap (λ (many : ℕ). take many line ++ drop many bits) count ∙ ap (λ (all : List Bool). all ++ drop (length line) bits) (take_all (length line) line (omega arith))

and_no : (one other : Bool) → other ≡ false → (one && other) ≡ false
and_no true other is = is
and_no false other is = refl

-- what a latch takes, and any other cell keeps
abbrev pub latch_or : Bool → Bool → Option Cell → Bool
latch_or value own None = own
latch_or value own (Some (Gate ins cover)) = own
latch_or value own (Some (Latch d init)) = value

module _ (job : Job) (node : ℕ) (code : Code) (is_code : IsCode (planned_of job) node (actions (planned_of job) node) code) where
  abbrev planned : PlannedBoard
  planned = planned_of job

  abbrev flat : Flat
  flat = job.checked.ordered.flat

  abbrev nets : List ℕ
  nets = code.nets.items

  abbrev own : List ℕ
  own = own_latches planned node

  abbrev is_own : ℕ → Bool
  is_own net = is_latch (driving_cell flat net) && eqb (home planned net) node

  own_one : (net : ℕ) → is_own net ≡ true → is_one own net ≡ true
  own_one net is =
      let parts = and_parts (is_latch (driving_cell flat net)) (eqb (home planned net) node) is in
      let cell = latch_is job node (driving_cell flat net) parts.0 in
      let within = latch_within job node net cell.0 cell.1.0 cell.1.1 in
      one_in_range is_own (length flat.cells) flat.inputs net (no_input (nat_lt net flat.inputs) refl cell.0 cell.1.0 cell.1.1) within is where
        no_input : (input : Bool) → nat_lt net flat.inputs ≡ input → (d : ℕ) (init : _)
            → (if input then None else slice_get flat.cells (net - flat.inputs)) ≡ Some (Latch d init) → flat.inputs ≤ net
        no_input true test d init at = cc
        no_input false test d init at = ltb-false net flat.inputs test

  own_none : (net : ℕ) → is_own net ≡ false → is_one own net ≡ false
  own_none net is =
      let range = range_with_len flat.inputs (length flat.cells) in
      none_at (λ (one : ℕ). is_own one ≡ true) own net (recursion_from_All (λ (one : ℕ). is_own one ≡ true) own (filter_passes is_own range)) (λ passes. true≢false (sym passes ∙ is))

  -- ---- a row in the first slots

  abbrev row : ℕ → Option (List Bool)
  row clock = if eqb node 0 then slice_get job.rows clock else None

  row_long : (clock : ℕ) (line : List Bool) → slice_get job.rows clock ≡ Some line → length line ≡ flat.inputs
  row_long clock line is = let same = get_or_from_slice_get job.rows clock line line is in subst (λ (one : List Bool). length one ≡ flat.inputs) same (job.even clock line (slice_get_within job.rows clock line is))

  host_room : node ≡ 0 → flat.inputs ≤ length nets
  host_room host = by flat.inputs refl where
    by : (count : ℕ) → flat.inputs ≡ count → flat.inputs ≤ length nets
    by zero is = omega (arith, is)
    by (suc last) is = omega (arith, is, slot_within nets last last (is_code.host host last (omega (arith, is))))

  pub row_room : (clock : ℕ) (line : List Bool) → row clock ≡ Some line → (length line ≡ flat.inputs) × (flat.inputs ≤ length nets)
  row_room clock line is = by (eqb node 0) refl is where
    by : (host : Bool) → eqb node 0 ≡ host → (if host then slice_get job.rows clock else None) ≡ Some line
        → (length line ≡ flat.inputs) × (flat.inputs ≤ length nets)
    by true test at = (row_long clock line at, host_room (eqb-true node 0 test))
    by false test at = cc

  module _ (bits : List Bool) (long : length bits ≡ length nets) (clock : ℕ) where
    pub length-with_row : length (with_row (row clock) bits) ≡ length nets
    length-with_row = by (row clock) refl where
      by : (one : Option (List Bool)) → row clock ≡ one → length (with_row one bits) ≡ length nets
      by None at = long
      by (Some line) at =
          let room = row_room clock line at in
          let put : with_row (Some line) bits ≡ line ++ drop (length line) bits = row_put line bits (omega (arith, long, room.0, room.1)) in
          omega (arith, long, room.0, room.1, ap (λ (list : List Bool). length list) put, length-append line (drop (length line) bits), length-drop (length line) bits)

    abbrev before : ℕ → Bool
    before net = bit_by nets bits net

    row_bit : (net : ℕ)
        → bit_by nets (with_row (row clock) bits) net ≡ (if eqb node 0 && nat_lt net flat.inputs then input_bit (slice_get job.rows clock) net (before net) else before net)
    row_bit net = by (eqb node 0) refl where
      found : (line : List Bool) (slot : Option ℕ) → length line ≡ flat.inputs → ((place : ℕ) → slot ≡ Some place → flat.inputs ≤ place)
          → slot_bit (line ++ drop (length line) bits) slot ≡ slot_bit bits slot
      found line None size past = refl
      found line (Some place) size past =
          let from : length line ≤ place = omega (arith, size, past place refl) in
          let back : length line + (place - length line) ≡ place = omega (arith, from) in
          get_or-append_right line (drop (length line) bits) (length line) place false refl from
          ∙ get_or-drop (length line) bits (place - length line) false ∙ ap (λ (at : ℕ). get_or bits at false) back

      inner : node ≡ 0 → (line : Option (List Bool)) (input : Bool) → slice_get job.rows clock ≡ line → nat_lt net flat.inputs ≡ input
          → bit_by nets (with_row line bits) net ≡ (if input then input_bit line net (before net) else before net)
      inner host None true at test = refl
      inner host None false at test = refl
      inner host (Some line) true at test =
          let inside = ltb-true net flat.inputs test in
          ap (λ (all : List Bool). bit_by nets all net) (row_put line bits (omega (arith, long, row_long clock line at, host_room host)))
          ∙ ap (slot_bit (line ++ drop (length line) bits)) (is_code.host host net inside) ∙ get_or_append_left line (drop (length line) bits) false net (omega (arith, inside, row_long clock line at))
      inner host (Some line) false at test =
          let from = ltb-false net flat.inputs test in
          let past = λ (place : ℕ) (is : net_slot nets net ≡ Some place).
          ⊎_elim (λ (under : place < flat.inputs). let same : net ≡ place = slot_apart nets net place place is (is_code.host host place under) in let over : flat.inputs ≤ place = omega (arith, same, from) in over) (λ (over : flat.inputs ≤ place). over) (cases_lt place flat.inputs) in
          ap (λ (all : List Bool). bit_by nets all net) (row_put line bits (omega (arith, long, row_long clock line at, host_room host)))
          ∙ found line (net_slot nets net) (row_long clock line at) past

      by : (host : Bool) → eqb node 0 ≡ host
          → bit_by nets (with_row (if host then slice_get job.rows clock else None) bits) net ≡ (if host && nat_lt net flat.inputs then input_bit (slice_get job.rows clock) net (before net) else before net)
      by true test = inner (eqb-true node 0 test) (slice_get job.rows clock) (nat_lt net flat.inputs) refl refl
      by false test = refl

    -- ---- and bits of the latches

    module _ (value : ℕ → Bool) (net : ℕ) where
      abbrev rowed : Bool
      rowed = bit_by nets (with_row (row clock) bits) net

      kept : (eqb node 0 && nat_lt net flat.inputs) ≡ false → rowed ≡ before net
      kept is = row_bit net ∙ ap (λ (one : Bool). if one then input_bit (slice_get job.rows clock) net (before net) else before net) is

      no_one : is_own net ≡ false → (if is_one own net then value net else rowed) ≡ rowed
      no_one is = ap (λ (one : Bool). if one then value net else rowed) (own_none net is)

      at_host : nat_lt net flat.inputs ≡ true → home planned net ≡ 0
      at_host test = ap (λ (is : Bool). if is then 0 else slice_index job.checked.plan.chip_of (net - flat.inputs)) test

      away : eqb (home planned net) node ≡ false → (eqb node 0 && nat_lt net flat.inputs) ≡ false
      away at =
          let if_input = λ (input : nat_lt net flat.inputs ≡ true).
          let if_host = λ (host : eqb node 0 ≡ true).
          let here : eqb (home planned net) node ≡ true = eq-eqb (home planned net) node (at_host input ∙ sym (eqb-true node 0 host)) in
          let whole : (eqb node 0 && nat_lt net flat.inputs) ≡ false = absurd (true≢false (sym here ∙ at)) in whole in
          let if_chip = λ (chip : eqb node 0 ≡ false). ap (λ (host : Bool). host && nat_lt net flat.inputs) chip in
          ⊎_elim if_host if_chip (cases_Bool (eqb node 0)) in
          let if_cell = λ (cell : nat_lt net flat.inputs ≡ false). and_no (eqb node 0) (nat_lt net flat.inputs) cell in
          ⊎_elim if_input if_cell (cases_Bool (nat_lt net flat.inputs))

      no_latch : (cell : Option Cell) → driving_cell flat net ≡ cell → is_latch cell ≡ false → nat_lt net flat.inputs ≡ false
          → (if is_one own net then value net else rowed) ≡ before net
      no_latch cell is none test = no_one (ap (λ (one : Option Cell). is_latch one && eqb (home planned net) node) is ∙ ap (λ (latch : Bool). latch && eqb (home planned net) node) none) ∙ kept (and_no (eqb node 0) (nat_lt net flat.inputs) test)

      pub source_bit : bit_by nets (with_bits code.latches.items (map value own) (with_row (row clock) bits)) net
          ≡ (if eqb (home planned net) node then (if nat_lt net flat.inputs then input_bit (slice_get job.rows clock) net (before net) else latch_or (value net) (before net) (driving_cell flat net)) else before net)
      source_bit =
          many_written nets value own code.latches.items (with_row (row clock) bits) is_code.latches length-with_row net
          ∙ by (nat_lt net flat.inputs) (eqb (home planned net) node) (driving_cell flat net) refl refl refl where
            by : (input here : Bool) (cell : Option Cell) → nat_lt net flat.inputs ≡ input → eqb (home planned net) node ≡ here → driving_cell flat net ≡ cell
                → (if is_one own net then value net else rowed) ≡ (if here then (if input then input_bit (slice_get job.rows clock) net (before net) else latch_or (value net) (before net) cell) else before net)
            by input false cell test at is = no_one (and_no (is_latch (driving_cell flat net)) (eqb (home planned net) node) at) ∙ kept (away at)
            by true true cell test at is =
                let none : is_latch (driving_cell flat net) ≡ false = ap (λ (input : Bool). is_latch (if input then None else slice_get flat.cells (net - flat.inputs))) test in
                let host : eqb node 0 ≡ true = eq-eqb node 0 (sym (eqb-true (home planned net) node at) ∙ at_host test) in
                no_one (ap (λ (latch : Bool). latch && eqb (home planned net) node) none) ∙ row_bit net
                ∙ ap₂ (λ (one two : Bool). if one && two then input_bit (slice_get job.rows clock) net (before net) else before net) host test
            by false true None test at is = no_latch None is refl test
            by false true (Some (Gate ins cover)) test at is = no_latch (Some (Gate ins cover)) is refl test
            by false true (Some (Latch d init)) test at is =
                ap (λ (one : Bool). if one then value net else rowed) (own_one net (and_from (is_latch (driving_cell flat net)) (eqb (home planned net) node) (ap is_latch is) at))
