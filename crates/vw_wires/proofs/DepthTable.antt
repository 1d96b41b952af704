-- The table of depths, as gates are gone over in their order.
use Rattle.std.proofs.Common.{◌≡◌, ◌<◌, ◌≤◌, ◌+◌, ◌-◌, ℕ, Bool, true, false, List, length, take, get_or, set, slice_get, slice_index, nat_lt, if◌then◌else◌, ap, ap₂, sym, ◌∙◌, ⊎_elim, le-ltb, None, All, arith}
use Rattle.std.proofs.lemmas.Bool.{cases_eq, cases_lt}
use Rattle.std.proofs.lemmas.Grind.{get_or-set_at}
use Rattle.std.proofs.lemmas.List.{get_or_past, get_or-set_other, length-set, take_all}
use Rattle.std.proofs.lemmas.List.Elements.{All-set, All-weaker}
use Rattle.std.proofs.lemmas.List.Sums.{AllPass-from_list_all}
use Rattle.std.proofs.lemmas.Option.{slice_get_past}
use Rattle.vw_net.specs.declared.cell.Cell.{Cell}
use Rattle.vw_net.specs.declared.flat.Flat.{Flat}
use Rattle.vw_net.specs.declared.ordered.Ordered.{Ordered}
use Rattle.vw_net.specs.Order.{is_ready, read_nets_at}
use Rattle.vw_net.proofs.ReadyNets.{order_within, ready_before, all_ready}
use Rattle.vw_plan.specs.Needs.{crossing, depth}
use Rattle.vw_plan.specs.Nets.{driving_cell, greatest_read}
use Rattle.vw_plan.proofs.AlongOrder.{All-gate_reads}
use Rattle.vw_plan.proofs.GreatestReads.{greatest_read-agree}

-- the depth of a cell's net, by a table
abbrev pub depth_by : Flat → List ℕ → List ℕ → ℕ → ℕ → ℕ
depth_by flat chip_of table number net = greatest_read (λ read. slice_index table read + crossing flat chip_of net read) (slice_get flat.cells number)

pub same_depth : (own flat : Flat) (chip_of items table : List ℕ) (other number at net : ℕ) → own ≡ flat → items ≡ table → other ≡ number → at ≡ net → depth_by own chip_of items other at ≡ depth_by flat chip_of table number net
same_depth own flat chip_of items table other number at net same_flat same_table same_number same_net =
    ap (λ (from : Flat). depth_by from chip_of items other at) same_flat ∙ ap (λ (from : List ℕ). depth_by flat chip_of from other at) same_table ∙ ap₂ (λ (from to : ℕ). depth_by flat chip_of table from to) same_number same_net

-- the law of depths
abbrev pub DepthsFollowDrivers : Flat → List ℕ → Type 0
DepthsFollowDrivers flat chip_of = (net : ℕ) → depth flat chip_of net ≡ greatest_read (λ read. depth flat chip_of read + crossing flat chip_of net read) (driving_cell flat net)

module _ (ordered : Ordered) where
  abbrev flat : Flat
  flat = ordered.flat

  abbrev inputs : ℕ
  inputs = flat.inputs

  abbrev cells : List Cell
  cells = flat.cells

  abbrev order : List ℕ
  order = ordered.order

  module _ (chip_of : List ℕ) (settles : DepthsFollowDrivers flat chip_of) where
    -- the depth of a net of a table, as it counts where another one's driver reads it
    abbrev table_at : List ℕ → ℕ → ℕ → ℕ
    table_at table net read = slice_index table read + crossing flat chip_of net read

    -- the nets that are ready have their depths in the table
    abbrev pub AreDepthsRight : List ℕ → List ℕ → Type 0
    AreDepthsRight done table = (net : ℕ) → is_ready inputs cells done net ≡ true → slice_index table net ≡ depth flat chip_of net

    -- the depth of the gate at a place, by the table
    abbrev here : ℕ → ℕ
    here place = inputs + get_or order place 0

    abbrev gate_depth : ℕ → List ℕ → ℕ
    gate_depth place table = depth_by flat chip_of table (get_or order place 0) (here place)

    pub gate_right : (place : ℕ) (table : List ℕ) → place < length order → AreDepthsRight (take place order) table → gate_depth place table ≡ depth flat chip_of (here place)
    gate_right place table within right =
        let number = get_or order place 0 in
        let net = here place in
        let cell = slice_get cells number in
        let is_done = is_ready inputs cells (take place order) in
        let ready : All (λ read. is_done read ≡ true) (read_nets_at cell) = AllPass-from_list_all is_done (read_nets_at cell) (ordered.is_order.after place within) in
        let at = λ (read : ℕ). depth flat chip_of read + crossing flat chip_of net read in
        let agree : All (λ read. table_at table net read ≡ at read) (read_nets_at cell) = All-weaker (λ read. is_done read ≡ true) (λ read. table_at table net read ≡ at read) (λ read done. ap (λ (own : ℕ). own + crossing flat chip_of net read) (right read done)) (read_nets_at cell) ready in
        let no_input : nat_lt net inputs ≡ false = le-ltb net inputs (omega arith) in
        let its_number : net - inputs ≡ number = omega arith in
        let its_driver : driving_cell flat net ≡ cell = ap (λ (input : Bool). if input then None else slice_get cells (net - inputs)) no_input ∙ ap (λ (at_number : ℕ). slice_get cells at_number) its_number in
        greatest_read-agree (table_at table net) at cell (All-gate_reads (λ read. table_at table net read ≡ at read) cell agree) ∙ ap (greatest_read at) (sym its_driver) ∙ sym (settles net)

    -- so one more net is right when it is written
    pub more_right : (place : ℕ) (table : List ℕ) → place < length order → inputs + length cells ≤ length table → AreDepthsRight (take place order) table → AreDepthsRight (take (place + 1) order) (set table (here place) (gate_depth place table))
    more_right place table within long right net ready =
        let value = gate_depth place table in
        let inside : here place < length table = omega (arith, order_within ordered.is_order place within) in
        let if_here = λ (same : net ≡ here place). get_or-set_at table (here place) net value 0 same inside ∙ gate_right place table within right ∙ ap (depth flat chip_of) (sym same) in
        let if_other = λ (other : net ≡ here place → ⊥). get_or-set_other table (here place) net value 0 other ∙ right net (ready_before ordered.is_order place net within other ready) in
        ⊎_elim if_here if_other (cases_eq net (here place))

    -- what a table keeps: its length, small depths, and that what is ready is right
    pub record KeepsDepths (done table : List ℕ) : Type 0 where
      pub long : length table ≡ inputs + length cells
      pub low : All (λ own. own ≤ 65537) table
      pub right : AreDepthsRight done table

    pub more_kept : (place : ℕ) (table : List ℕ) (net value : ℕ) → place < length order → ((at : ℕ) → depth flat chip_of at ≤ length cells + 1) → net ≡ here place → value ≡ gate_depth place table → KeepsDepths (take place order) table → KeepsDepths (take (place + 1) order) (set table net value)
    more_kept place table net value within small same_net same_value kept =
        let right_value : value ≡ depth flat chip_of (here place) = same_value ∙ gate_right place table within kept.right in
        let low_value : value ≤ 65537 = omega (arith, right_value, small (here place), flat.few_cells) in
        record {
          long = length-set table net value ∙ kept.long;
          low = All-set (λ own. own ≤ 65537) table net value low_value kept.low;
          right = λ at ready. ap₂ (λ (to written : ℕ). slice_index (set table to written) at) same_net same_value ∙ more_right place table within (omega (arith, kept.long)) kept.right at ready;
        }

    -- in the end all nets are right, and those past the last one too
    pub all_right : (place : ℕ) (table : List ℕ) → length order ≤ place → length table ≡ inputs + length cells → AreDepthsRight (take place order) table → (net : ℕ) → slice_index table net ≡ depth flat chip_of net
    all_right place table whole long right net =
        let at = λ (read : ℕ). depth flat chip_of read + crossing flat chip_of net read in
        let if_past = λ (past : inputs + length cells ≤ net).
        let no_input : nat_lt net inputs ≡ false = le-ltb net inputs (omega arith) in
        let no_driver : driving_cell flat net ≡ None = ap (λ (input : Bool). if input then None else slice_get cells (net - inputs)) no_input ∙ slice_get_past cells (net - inputs) (omega arith) in
        get_or_past table net 0 (omega arith) ∙ sym (settles net ∙ ap (greatest_read at) no_driver) in
        ⊎_elim (λ there. right net (rw (take_all place order whole) (all_ready ordered.is_order net there))) if_past (cases_lt net (inputs + length cells))
