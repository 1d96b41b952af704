-- Leads of nets at their own nodes, as gates are gone over in their order.
use Rattle.std.proofs.Common.{◌≡◌, ◌<◌, ◌≤◌, ◌+◌, ◌-◌, ◌^◌, ◌||◌, ◌&&◌, ℕ, Bool, true, false, List, [], length, take, replicate, get_or, set, slice_get, slice_index, slice_index_or, nat_lt, if◌then◌else◌, eqb, ap, ap₂, refl, sym, ◌∙◌, ⊎_elim, eq-eqb, le-ltb, eqb-true, true≢false, subst, Option, Some, None, All, arith}
use Rattle.std.proofs.Math.Bool.{or-false}
use Rattle.std.proofs.lemmas.Bool.{cases_Bool, cases_eq, cases_lt, or_cases}
use Rattle.std.proofs.lemmas.Grind.{get_or-set_at}
use Rattle.std.proofs.lemmas.List.{get_or_past, get_or-replicate, get_or-set_other, length-replicate, length-set, take_all}
use Rattle.std.proofs.lemmas.List.Elements.{All-replicate, All-set, All-weaker}
use Rattle.std.proofs.lemmas.List.Sums.{AllPass-from_list_all}
use Rattle.vw_net.specs.declared.cell.Cell.{Cell}
use Rattle.vw_net.specs.declared.cell.Cell.TheVariants.{Gate, Latch}
use Rattle.vw_net.specs.Order.{is_gate, is_latch, is_ready, read_nets_at}
use Rattle.vw_net.proofs.ReadyNets.{order_within, ready_before, all_ready}
use Rattle.vw_plan.proofs.AlongOrder.{All-gate_reads}
use Rattle.vw_plan.proofs.LeadLevels.{LeadsFollowDrivers}
use Rattle.vw_plan.proofs.GreatestReads.{greatest_read-agree}
use Rattle.vw_plan.specs.Lead.{brought_at, lead, usable}
use Rattle.vw_plan.specs.Nets.{driving_cell, greatest_read}
use Rattle.vw_plan.specs.PlannedBoard.{PlannedBoard, home}
use Rattle.vw_ready.specs.Leads as by_table
use Rattle.vw_ready.specs.LeadTables.{AreLeads, lead_from_homes}

-- a latch has lead 0
driven_latch : (lead_at : ℕ → ℕ) (cell : Option Cell) → is_latch cell ≡ true → greatest_read lead_at cell ≡ 0
driven_latch lead_at None latch = refl
driven_latch lead_at (Some (Gate ins cover)) latch = absurd (true≢false (sym latch))
driven_latch lead_at (Some (Latch d init)) latch = refl

-- a list of zeros has 0 everywhere, and past its end
zero_at : (count net : ℕ) → slice_index (replicate count 0) net ≡ 0
zero_at count net = ⊎_elim (λ within. get_or-replicate count net 0 0 within) (λ past. get_or_past (replicate count 0) net 0 (let long : length (replicate {A = ℕ} count 0) ≡ count = length-replicate {A = ℕ} count 0 in omega arith)) (cases_lt net count)

-- the lead of a cell, by a list of leads
pub same_lead : (planned : PlannedBoard) (items leads : List ℕ) (other number : ℕ) → items ≡ leads → other ≡ number → greatest_read (lead_from_homes planned items (slice_index planned.plan.chip_of other)) (slice_get planned.ordered.flat.cells other) ≡ greatest_read (lead_from_homes planned leads (slice_index planned.plan.chip_of number)) (slice_get planned.ordered.flat.cells number)
same_lead planned items leads other number same_items same_number = ap₂ (λ (list : List ℕ) (at : ℕ). greatest_read (lead_from_homes planned list (slice_index planned.plan.chip_of at)) (slice_get planned.ordered.flat.cells at)) same_items same_number

module _ (planned : PlannedBoard) where
  abbrev inputs : ℕ
  inputs = planned.ordered.flat.inputs

  abbrev cells : List Cell
  cells = planned.ordered.flat.cells

  abbrev order : List ℕ
  order = planned.ordered.order

  module _ (settles : LeadsFollowDrivers planned) where
    abbrev home_lead : ℕ → ℕ
    home_lead net = lead planned (home planned net) net

    -- at its own node a net has the lead of what drives it
    own_lead : (net : ℕ) → home_lead net ≡ greatest_read (lead planned (home planned net)) (driving_cell planned.ordered.flat net)
    own_lead net = settles (home planned net) net ∙ ap (λ (own : Bool). if own then greatest_read (lead planned (home planned net)) (driving_cell planned.ordered.flat net) else brought_at planned (home planned net) net) (eq-eqb (home planned net) (home planned net) refl)

    -- the nets that are ready have their leads in the list
    abbrev pub AreLeadsRight : List ℕ → List ℕ → Type 0
    AreLeadsRight done leads = (net : ℕ) → is_ready inputs cells done net ≡ true → slice_index_or leads net 0 ≡ home_lead net

    -- before any gate, those of inputs and latches: they have lead 0
    start_lead : (net : ℕ) → is_ready inputs cells [] net ≡ true → home_lead net ≡ 0
    start_lead net ready =
        let number = net - inputs in
        let cell = slice_get cells number in
        let lead_at = lead planned (home planned net) in
        let if_input = λ (input : nat_lt net inputs ≡ true). own_lead net ∙ ap (λ (is : Bool). greatest_read lead_at (if is then None else cell)) input in
        let if_latch = λ (latch : is_latch cell ≡ true). own_lead net ∙ (elim (nat_lt net inputs) as (λ is. greatest_read lead_at (if is then None else cell) ≡ 0) [ true ↦ refl | false ↦ driven_latch lead_at cell latch ]) in
        let if_driven = λ (drives : (is_latch cell || false) ≡ true). if_latch (sym (or-false (is_latch cell)) ∙ drives) in
        ⊎_elim if_input if_driven (or_cases (nat_lt net inputs) (is_latch cell || false) ready)

    -- what a list of them gives a net at a node, where the net is right in it
    right_lead : (leads : List ℕ) (node net : ℕ) → slice_index_or leads net 0 ≡ home_lead net → lead_from_homes planned leads node net ≡ lead planned node net
    right_lead leads node net right =
        let if_home = λ (is : eqb (home planned net) node ≡ true).
        let here : home planned net ≡ node = eqb-true (home planned net) node is in
        ap (λ (own : Bool). if own then slice_index_or leads net 0 else brought_at planned node net) is ∙ right ∙ ap (λ (at : ℕ). lead planned at net) here in
        let if_away = λ (is : eqb (home planned net) node ≡ false).
        ap (λ (own : Bool). if own then slice_index_or leads net 0 else brought_at planned node net) is
        ∙ sym (settles node net ∙ ap (λ (own : Bool). if own then greatest_read (lead planned node) (driving_cell planned.ordered.flat net) else brought_at planned node net) is) in
        ⊎_elim if_home if_away (cases_Bool (eqb (home planned net) node))

    -- the lead of the gate at a place, by the list
    abbrev here : ℕ → ℕ
    here place = inputs + get_or order place 0

    abbrev pub home_lead_at : ℕ → List ℕ → ℕ
    home_lead_at place leads = greatest_read (lead_from_homes planned leads (slice_index planned.plan.chip_of (get_or order place 0))) (slice_get cells (get_or order place 0))

    gate_right : (place : ℕ) (leads : List ℕ) → place < length order → AreLeadsRight (take place order) leads → home_lead_at place leads ≡ home_lead (here place)
    gate_right place leads within right =
        let number = get_or order place 0 in
        let node = slice_index planned.plan.chip_of number in
        let net = here place in
        let cell = slice_get cells number in
        let is_done = is_ready inputs cells (take place order) in
        let ready : All (λ read. is_done read ≡ true) (read_nets_at cell) = AllPass-from_list_all is_done (read_nets_at cell) (planned.ordered.is_order.after place within) in
        let agree : All (λ read. lead_from_homes planned leads node read ≡ lead planned node read) (read_nets_at cell) = All-weaker (λ read. is_done read ≡ true) (λ read. lead_from_homes planned leads node read ≡ lead planned node read) (λ read done. right_lead leads node read (right read done)) (read_nets_at cell) ready in
        let no_input : nat_lt net inputs ≡ false = le-ltb net inputs (omega arith) in
        let its_number : net - inputs ≡ number = omega arith in
        let its_driver : driving_cell planned.ordered.flat net ≡ cell = ap (λ (input : Bool). if input then None else slice_get cells (net - inputs)) no_input ∙ ap (λ (at : ℕ). slice_get cells at) its_number in
        let its_home : home planned net ≡ node = ap (λ (input : Bool). if input then 0 else slice_index planned.plan.chip_of (net - inputs)) no_input ∙ ap (λ (at : ℕ). slice_index planned.plan.chip_of at) its_number in
        greatest_read-agree (lead_from_homes planned leads node) (lead planned node) cell (All-gate_reads (λ read. lead_from_homes planned leads node read ≡ lead planned node read) cell agree)
        ∙ ap₂ (λ (at : ℕ) (drives : Option Cell). greatest_read (lead planned at) drives) (sym its_home) (sym its_driver)
        ∙ sym (own_lead net)

    more_right : (place : ℕ) (leads : List ℕ) → place < length order → inputs + length cells ≤ length leads → AreLeadsRight (take place order) leads → AreLeadsRight (take (place + 1) order) (set leads (here place) (home_lead_at place leads))
    more_right place leads within long right net ready =
        let value = home_lead_at place leads in
        let inside : here place < length leads = omega (arith, order_within planned.ordered.is_order place within) in
        let if_here = λ (same : net ≡ here place). get_or-set_at leads (here place) net value 0 same inside ∙ gate_right place leads within right ∙ ap home_lead (sym same) in
        let if_other = λ (other : net ≡ here place → ⊥). get_or-set_other leads (here place) net value 0 other ∙ right net (ready_before planned.ordered.is_order place net within other ready) in
        ⊎_elim if_here if_other (cases_eq net (here place))

    -- what the list keeps: its length, that leads are low, and that what is ready is right
    pub record AreHomeLeads (done leads : List ℕ) : Type 0 where
      pub long : length leads ≡ inputs + length cells
      pub low : All (λ number. number < 2 ^ 63) leads
      pub right : AreLeadsRight done leads

    pub more_kept : (place : ℕ) (leads : List ℕ) (net value : ℕ) → place < length order → net ≡ here place → value ≡ home_lead_at place leads → value < 2 ^ 63 → AreHomeLeads (take place order) leads → AreHomeLeads (take (place + 1) order) (set leads net value)
    more_kept place leads net value within same_net same_value low_value kept = record {
      long = length-set leads net value ∙ kept.long;
      low = All-set (λ number. number < 2 ^ 63) leads net value low_value kept.low;
      right = λ at ready. ap₂ (λ (to written : ℕ). slice_index_or (set leads to written) at 0) same_net same_value ∙ more_right place leads within (omega (arith, kept.long)) kept.right at ready;
    }

    -- in the end all nets are right
    pub all_leads : (place : ℕ) (leads : List ℕ) → length order ≤ place → AreHomeLeads (take place order) leads → AreLeads planned leads
    all_leads place leads whole kept = record {
      nets = kept.long;
      low = kept.low;
      leads_at = λ net within. kept.right net (rw (take_all place order whole) (all_ready planned.ordered.is_order net (omega (arith, kept.long))));
    }

    -- a list of zeros is right before any gate
    pub start_kept : (leads : List ℕ) (count : ℕ) → leads ≡ replicate count 0 → count ≡ inputs + length cells → AreHomeLeads [] leads
    start_kept leads count zeros all = record {
      long = ap length zeros ∙ length-replicate count 0 ∙ all;
      low = subst (All (λ number. number < 2 ^ 63)) (sym zeros) (All-replicate (λ number. number < 2 ^ 63) count 0 (omega arith));
      right = λ net ready. ap (λ (list : List ℕ). slice_index_or list net 0) zeros ∙ zero_at count net ∙ sym (start_lead net ready);
    }

    -- so what the table knows is right
    pub microcycles_right : (leads items chips : List ℕ) (settle : ℕ) (arrived : ℕ → ℕ → ℕ) → AreLeads planned leads → items ≡ leads → chips ≡ planned.plan.chip_of → settle ≡ planned.board.settle → arrived ≡ (λ net node. brought_at planned node net)
        → (node net : ℕ) → net < planned.ordered.flat.inputs + length planned.ordered.flat.cells → by_table.usable_by planned.ordered.flat chips settle arrived items node net ≡ usable planned node net
    microcycles_right leads items chips settle arrived are items_are chips_are settle_is arrived_is node net within =
        ap₂ (λ (list : List ℕ) (time : ℕ). by_table.usable_by planned.ordered.flat list time arrived items node net) chips_are settle_is
        ∙ ap₂ (λ (brought : ℕ → ℕ → ℕ) (list : List ℕ). by_table.usable_by planned.ordered.flat planned.plan.chip_of planned.board.settle brought list node net) arrived_is items_are
        ∙ ap (λ (lead : ℕ). lead + (if is_gate (driving_cell planned.ordered.flat net) && eqb (home planned net) node then planned.board.settle else 0)) (right_lead leads node net (are.leads_at net (omega (arith, within, are.nets))))
