-- The table of least microcycles, as gates are gone over in their order.
use Rattle.std.proofs.Common.{◌≡◌, ◌<◌, ◌≤◌, ◌+◌, ◌-◌, ◌^◌, ◌||◌, ℕ, Bool, true, false, List, [], length, take, replicate, get_or, set, slice_get, slice_index, nat_lt, cond, ap, ap₂, refl, sym, ◌∙◌, ⊎_elim, le-ltb, true≢false, subst, Option, Some, None, All, arith}
use Rattle.std.proofs.Math.Bool.{or-false}
use Rattle.std.proofs.lemmas.Bool.{cases_eq, cases_lt, or_cases}
use Rattle.std.proofs.lemmas.Grind.{get_or-set_at}
use Rattle.std.proofs.lemmas.List.{get_or_past, get_or-replicate, get_or-set_other, length-replicate, length-set, take_all}
use Rattle.std.proofs.lemmas.List.Elements.{All-replicate, All-set, All-weaker}
use Rattle.std.proofs.lemmas.List.Sums.{AllPass-from_list_all}
use Rattle.std.proofs.lemmas.Option.{slice_get_past}
use Rattle.vw_net.specs.declared.cell.Cell.{Cell}
use Rattle.vw_net.specs.declared.cell.Cell.TheVariants.{Gate, Latch}
use Rattle.vw_net.specs.Order.{is_latch, is_ready, read_nets_at}
use Rattle.vw_net.proofs.ReadyNets.{order_within, ready_before, all_ready}
use Rattle.vw_plan.specs.Nets.{driving_cell, greatest_read}
use Rattle.vw_plan.proofs.AlongOrder.{All-gate_reads}
use Rattle.vw_plan.proofs.GreatestReads.{greatest_read-agree}
use Rattle.vw_bound.specs.PlacedDesigns.{PlacedDesign, home_in}
use Rattle.vw_bound.specs.Times.{read_by, soon}
use Rattle.vw_bound.specs.Tables.{AreLow, IsSoonTable, cell_by}
use Rattle.vw_bound.proofs.SoonLevels.{read_agree, soon_by_driver, soon_low}

-- a latch has 0
driven_latch : (time_of : ℕ → ℕ) (cell : Option Cell) → is_latch cell ≡ true → greatest_read time_of cell ≡ 0
driven_latch time_of None latch = refl
driven_latch time_of (Some (Gate ins cover)) latch = absurd (true≢false (sym latch))
driven_latch time_of (Some (Latch d init)) latch = refl

-- a list of zeros has 0 everywhere, and past its end
zero_at : (count net : ℕ) → slice_index (replicate count 0) net ≡ 0
zero_at count net = ⊎_elim (λ within. get_or-replicate count net 0 0 within) (λ past. get_or_past (replicate count 0) net 0 (let long : length (replicate {A = ℕ} count 0) ≡ count = length-replicate {A = ℕ} count 0 in omega arith)) (cases_lt net count)

-- the time of a cell, by a table
pub same_cell : (placed : PlacedDesign) (items table : List ℕ) (other number : ℕ) → items ≡ table → other ≡ number → cell_by placed items other ≡ cell_by placed table number
same_cell placed items table other number same_items same_number = ap₂ (λ (list : List ℕ) (at : ℕ). cell_by placed list at) same_items same_number

module _ (placed : PlacedDesign) where
  abbrev inputs : ℕ
  inputs = placed.ordered.flat.inputs

  abbrev cells : List Cell
  cells = placed.ordered.flat.cells

  abbrev order : List ℕ
  order = placed.ordered.order

  -- the nets that are ready have their times in the table
  abbrev pub AreRight : List ℕ → List ℕ → Type 0
  AreRight done table = (net : ℕ) → is_ready inputs cells done net ≡ true → slice_index table net ≡ soon placed net

  -- before any gate, those of inputs and latches: they have 0
  start_time : (net : ℕ) → is_ready inputs cells [] net ≡ true → soon placed net ≡ 0
  start_time net ready =
      let cell = slice_get cells (net - inputs) in
      let time_of = read_by placed (soon placed) (home_in placed net) in
      let own = soon_by_driver placed net in
      let if_input = λ (input : nat_lt net inputs ≡ true). own ∙ ap (λ (is : Bool). greatest_read time_of (cond is None cell)) input in
      let if_latch = λ (latch : is_latch cell ≡ true). own ∙ (elim (nat_lt net inputs) as (λ is. greatest_read time_of (cond is None cell) ≡ 0) [ true ↦ refl | false ↦ driven_latch time_of cell latch ]) in
      let if_driven = λ (drives : (is_latch cell || false) ≡ true). if_latch (sym (or-false (is_latch cell)) ∙ drives) in
      ⊎_elim if_input if_driven (or_cases (nat_lt net inputs) (is_latch cell || false) ready)

  -- the gate at a place of the order
  abbrev here : ℕ → ℕ
  here place = inputs + get_or order place 0

  gate_right : (place : ℕ) (table : List ℕ) → place < length order → AreRight (take place order) table → cell_by placed table (get_or order place 0) ≡ soon placed (here place)
  gate_right place table within right =
      let number = get_or order place 0 in
      let node = slice_index placed.chip_of number in
      let net = here place in
      let cell = slice_get cells number in
      let is_done = is_ready inputs cells (take place order) in
      let ready : All (λ read. is_done read ≡ true) (read_nets_at cell) = AllPass-from_list_all is_done (read_nets_at cell) (placed.ordered.is_order.after place within) in
      let by_table = read_by placed (slice_index table) node in
      let by_times = read_by placed (soon placed) node in
      let agree : All (λ read. by_table read ≡ by_times read) (read_nets_at cell) = All-weaker (λ read. is_done read ≡ true) (λ read. by_table read ≡ by_times read) (λ read done. read_agree placed (slice_index table) (soon placed) node read (right read done)) (read_nets_at cell) ready in
      let no_input : nat_lt net inputs ≡ false = le-ltb net inputs (omega arith) in
      let its_number : net - inputs ≡ number = omega arith in
      let its_driver : driving_cell placed.ordered.flat net ≡ cell = ap (λ (input : Bool). cond input None (slice_get cells (net - inputs))) no_input ∙ ap (λ (at : ℕ). slice_get cells at) its_number in
      let its_home : home_in placed net ≡ node = ap (λ (input : Bool). cond input 0 (slice_index placed.chip_of (net - inputs))) no_input ∙ ap (λ (at : ℕ). slice_index placed.chip_of at) its_number in
      greatest_read-agree by_table by_times cell (All-gate_reads (λ read. by_table read ≡ by_times read) cell agree)
      ∙ ap₂ (λ (at : ℕ) (drives : Option Cell). greatest_read (read_by placed (soon placed) at) drives) (sym its_home) (sym its_driver)
      ∙ sym (soon_by_driver placed net)

  more_right : (place : ℕ) (table : List ℕ) → place < length order → inputs + length cells ≤ length table → AreRight (take place order) table → AreRight (take (place + 1) order) (set table (here place) (cell_by placed table (get_or order place 0)))
  more_right place table within long right net ready =
      let value = cell_by placed table (get_or order place 0) in
      let inside : here place < length table = omega (arith, order_within placed.ordered.is_order place within) in
      let if_here = λ (same : net ≡ here place). get_or-set_at table (here place) net value 0 same inside ∙ gate_right place table within right ∙ ap (soon placed) (sym same) in
      let if_other = λ (other : net ≡ here place → ⊥). get_or-set_other table (here place) net value 0 other ∙ right net (ready_before placed.ordered.is_order place net within other ready) in
      ⊎_elim if_here if_other (cases_eq net (here place))

  -- what the table keeps: its length, that times are low, and that what is ready is right
  pub record KeepsTimes (done table : List ℕ) : Type 0 where
    pub long : length table ≡ inputs + length cells
    pub low : AreLow table
    pub right : AreRight done table

  pub more_kept : (place : ℕ) (table : List ℕ) (net value : ℕ) → place < length order → net ≡ here place → value ≡ cell_by placed table (get_or order place 0) → KeepsTimes (take place order) table → KeepsTimes (take (place + 1) order) (set table net value)
  more_kept place table net value within same_net same_value kept =
      let is : value ≡ soon placed (here place) = same_value ∙ gate_right place table within kept.right in
      let low_value : value ≤ 2 ^ 62 = omega (arith, is, soon_low placed (here place)) in
      record {
        long = length-set table net value ∙ kept.long;
        low = All-set (λ time. time ≤ 2 ^ 62) table net value low_value kept.low;
        right = λ at ready. ap₂ (λ (to written : ℕ). slice_index (set table to written) at) same_net same_value ∙ more_right place table within (omega (arith, kept.long)) kept.right at ready;
      }

  -- in the end all nets are right, and those past the last one too
  pub all_times : (place : ℕ) (table : List ℕ) → length order ≤ place → KeepsTimes (take place order) table → IsSoonTable placed table
  all_times place table whole kept = record { low = kept.low; times = time_of } where
    time_of : (net : ℕ) → slice_index table net ≡ soon placed net
    time_of net =
        let long : length table ≡ inputs + length cells = kept.long in
        let if_past = λ (past : inputs + length cells ≤ net).
        let no_input : nat_lt net inputs ≡ false = le-ltb net inputs (omega arith) in
        let no_driver : driving_cell placed.ordered.flat net ≡ None = ap (λ (input : Bool). cond input None (slice_get cells (net - inputs))) no_input ∙ slice_get_past cells (net - inputs) (omega arith) in
        get_or_past table net 0 (omega (arith, long)) ∙ sym (soon_by_driver placed net ∙ ap (greatest_read (read_by placed (soon placed) (home_in placed net))) no_driver) in
        ⊎_elim (λ inside. kept.right net (rw (take_all place order whole) (all_ready placed.ordered.is_order net inside))) if_past (cases_lt net (inputs + length cells))

  -- a list of zeros is right before any gate
  pub start_kept : (table : List ℕ) (count : ℕ) → table ≡ replicate count 0 → count ≡ inputs + length cells → KeepsTimes [] table
  start_kept table count zeros all = record {
    long = ap length zeros ∙ length-replicate count 0 ∙ all;
    low = subst (All (λ time. time ≤ 2 ^ 62)) (sym zeros) (All-replicate (λ time. time ≤ 2 ^ 62) count 0 (omega arith));
    right = λ net ready. ap (λ (list : List ℕ). slice_index list net) zeros ∙ zero_at count net ∙ sym (start_time net ready);
  }
