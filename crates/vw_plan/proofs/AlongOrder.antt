-- What holds along an order: of each net, once it holds of the nets that its gate reads.
use Rattle.std.proofs.Common.{◌≡◌, ◌<◌, ◌≤◌, ◌-◌, ◌||◌, ℕ, zero, suc, true, false, List, length, take, get_or, slice_get, nat_lt, if◌then◌else◌, eqb, sym, ◌∙◌, ⊎_elim, true≢false, eqb-true, Option, Some, None, add-one, All, arith}
use Rattle.std.proofs.lemmas.Bool.{cases_Bool, or_cases}
use Rattle.std.proofs.lemmas.List.{take_all}
use Rattle.std.proofs.lemmas.List.Elements.{All-weaker}
use Rattle.std.proofs.lemmas.List.Folds.{list_any_more}
use Rattle.std.proofs.lemmas.List.Sums.{AllPass-from_list_all}
use Rattle.vw_net.specs.declared.cell.Cell.{Cell}
use Rattle.vw_net.specs.declared.cell.Cell.TheVariants.{Gate, Latch}
use Rattle.vw_net.specs.declared.ordered.Ordered.{Ordered}
use Rattle.vw_net.specs.Order.{is_gate, is_latch, is_among, is_ready, read_nets_at, gate_inputs}
use Rattle.vw_net.proofs.DrivenValues.{is_gate-latch}
use Rattle.vw_plan.specs.Nets.{driving_cell}

-- what holds of all that a cell reads holds of all that it reads as a gate
pub All-gate_reads : (P : ℕ → Type 0) (cell : Option Cell) → All P (read_nets_at cell) → All P (gate_inputs cell)
All-gate_reads P None all = all
All-gate_reads P (Some (Gate ins cover)) all = all
All-gate_reads P (Some (Latch d init)) all = λ place default within. absurd (omega arith)

-- what is no gate reads nothing as a gate
All-no_gate : (P : ℕ → Type 0) (cell : Option Cell) → is_gate cell ≡ false → All P (gate_inputs cell)
All-no_gate P None no_gate = λ place default within. absurd (omega arith)
All-no_gate P (Some (Gate ins cover)) no_gate = absurd (true≢false no_gate)
All-no_gate P (Some (Latch d init)) no_gate = λ place default within. absurd (omega arith)

module _ (ordered : Ordered) (P : ℕ → ℕ → Type 0) (later : (from to net : ℕ) → from ≤ to → P from net → P to net) (step : (from net : ℕ) → All (P from) (gate_inputs (driving_cell ordered.flat net)) → P (suc from) net) where
  abbrev inputs : ℕ
  inputs = ordered.flat.inputs

  abbrev cells : List Cell
  cells = ordered.flat.cells

  abbrev order : List ℕ
  order = ordered.order

  -- a net has it one round later than all that the cell reads at whose number it is
  by_reads : (from net : ℕ) → All (P from) (read_nets_at (slice_get cells (net - inputs))) → P (suc from) net
  by_reads from net all = step from net (elim (nat_lt net inputs) as (λ input. All (P from) (gate_inputs (if input then None else slice_get cells (net - inputs)))) [
    | true ↦ λ place default within. absurd (omega arith)
    | false ↦ All-gate_reads (P from) (slice_get cells (net - inputs)) all
  ])

  -- what isn't driven by a gate has it after one round
  by_no_gate : (net : ℕ) → is_gate (slice_get cells (net - inputs)) ≡ false → P 1 net
  by_no_gate net no_gate = step 0 net (elim (nat_lt net inputs) as (λ input. All (P 0) (gate_inputs (if input then None else slice_get cells (net - inputs)))) [
    | true ↦ λ place default within. absurd (omega arith)
    | false ↦ All-no_gate (P 0) (slice_get cells (net - inputs)) no_gate
  ])

  -- and so does an input
  by_input : (net : ℕ) → nat_lt net inputs ≡ true → P 1 net
  by_input net input = step 0 net (rw input (λ place default within. absurd (omega arith)))

  -- each net whose driver is among these cell numbers has it after some rounds
  record Have (from : ℕ) (done : List ℕ) : Type 0 where
    have : (net : ℕ) → is_among done (net - inputs) ≡ true → P from net

  -- a net that is ready has it if the nets of the gates that are done do
  by_ready : (done : List ℕ) (from : ℕ) → 1 ≤ from → Have from done → (net : ℕ) → is_ready inputs cells done net ≡ true → P from net
  by_ready done from late gates net ready =
      let cell = slice_get cells (net - inputs) in
      let if_input = λ (input : nat_lt net inputs ≡ true). later 1 from net late (by_input net input) in
      let if_latch = λ (latch : is_latch cell ≡ true). later 1 from net late (by_no_gate net (is_gate-latch cell latch)) in
      let if_driven = λ (drives : (is_latch cell || is_among done (net - inputs)) ≡ true). ⊎_elim if_latch (gates.have net) (or_cases (is_latch cell) (is_among done (net - inputs)) drives) in
      ⊎_elim if_input if_driven (or_cases (nat_lt net inputs) (is_latch cell || is_among done (net - inputs)) ready)

  -- the gate at a place of the order has it one round after the gates before it
  by_place : (place : ℕ) → place < length order → Have (suc place) (take place order) → (net : ℕ) → get_or order place 0 ≡ net - inputs
      → P (suc (suc place)) net
  by_place place within before net here =
      let is_done = is_ready inputs cells (take place order) in
      let reads = read_nets_at (slice_get cells (net - inputs)) in
      let done : All (λ other. is_done other ≡ true) reads = AllPass-from_list_all is_done reads (rw here at (ordered.is_order.after place within)) in
      by_reads (suc place) net (All-weaker (λ other. is_done other ≡ true) (P (suc place)) (by_ready (take place order) (suc place) (omega arith) before) reads done)

  -- and so do all the gates up to it
  more_have : (place : ℕ) → place < length order → Have (suc place) (take place order) → Have (suc (suc place)) (take (suc place) order)
  more_have place within before = record { have = one_has } where
    one_has : (net : ℕ) → is_among (take (suc place) order) (net - inputs) ≡ true → P (suc (suc place)) net
    one_has net among =
        let number = net - inputs in
        let one_more = rw add-one at (list_any_more (λ other. eqb other number) order place 0 within) in
        let if_before = λ (sooner : is_among (take place order) number ≡ true). later (suc place) (suc (suc place)) net (omega arith) (before.have net sooner) in
        let if_here = λ (here : eqb (get_or order place 0) number ≡ true). by_place place within before net (eqb-true (get_or order place 0) number here) in
        ⊎_elim if_before if_here (or_cases (is_among (take place order) number) (eqb (get_or order place 0) number) (sym one_more ∙ among))

  -- the gates before a place of the order have it after one round more than there are of them
  taken_have : (place : ℕ) → place ≤ length order → Have (suc place) (take place order)
  taken_have zero within = record { have = λ net among. absurd (true≢false (sym among)) }
  taken_have (suc place) within = more_have place (omega arith) (taken_have place (omega arith))

  -- every net has it after one round more than there are gates
  pub every_net : (net : ℕ) → P (suc (length order)) net
  every_net net =
      let cell = slice_get cells (net - inputs) in
      let gates : Have (suc (length order)) order = rw (take_all (length order) order (omega arith)) at (taken_have (length order) (omega arith)) in
      let if_gate = λ (gate : is_gate cell ≡ true). gates.have net (sym (ordered.is_order.each (net - inputs)) ∙ gate) in
      let if_no_gate = λ (no_gate : is_gate cell ≡ false). later 1 (suc (length order)) net (omega arith) (by_no_gate net no_gate) in
      ⊎_elim if_gate if_no_gate (cases_Bool (is_gate cell))
