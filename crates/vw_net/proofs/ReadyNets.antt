-- What an order of gates says of its places, and of the nets that are ready when some of them are done.
use Rattle.std.proofs.Common.{◌≡◌, ◌<◌, ◌≤◌, ◌+◌, ◌-◌, ◌||◌, ℕ, Bool, true, false, List, length, take, get_or, slice_get, nat_lt, eqb, Option, Some, ap, ap₂, sym, refl, ◌∙◌, All, ⊎_elim, eq-eqb, ne_eqb, lt-ltb, arith}
use Rattle.std.proofs.lemmas.Bool.{cases_lt, or_left, or_right}
use Rattle.std.proofs.Math.Bool.{or-false}
use Rattle.std.proofs.lemmas.List.Folds.{list_any_at, list_any_more}
use Rattle.std.specs.List.{list_all}
use Rattle.std.proofs.lemmas.List.Sums.{AllPass-from_list_all}
use Rattle.std.proofs.lemmas.Option.{slice_get_read}
use Rattle.vw_net.specs.declared.cell.Cell.{Cell}
use Rattle.vw_net.specs.declared.cell.Cell.TheVariants.{Gate}
use Rattle.vw_net.specs.declared.cover.Cover.{Cover}
use Rattle.vw_net.specs.Order.{IsOrder, is_gate, is_latch, is_among, is_ready, read_nets_at}
use Rattle.vw_net.proofs.Orders.{gate_within, gate_or_latch}

module _ {inputs : ℕ} {cells : List Cell} {order : List ℕ} (is_order : IsOrder inputs cells order) where
  -- what the order lists is a gate
  pub order_gate : (place : ℕ) → place < length order → is_gate (slice_get cells (get_or order place 0)) ≡ true
  order_gate place within =
      let number = get_or order place 0 in
      is_order.each number ∙ list_any_at (λ other. eqb other number) order place 0 within (eq-eqb number number refl)

  -- and so its number is below the number of cells
  pub order_within : (place : ℕ) → place < length order → get_or order place 0 < length cells
  order_within place within = gate_within cells (get_or order place 0) (order_gate place within)

  -- every net is ready when the whole order is done
  pub all_ready : (net : ℕ) → net < inputs + length cells → is_ready inputs cells order net ≡ true
  all_ready net within =
      let number = net - inputs in
      let latch = is_latch (slice_get cells number) in
      let if_input = λ (input : net < inputs). or_left (nat_lt net inputs) (latch || is_among order number) (lt-ltb net inputs input) in
      let if_driven = λ (past : inputs ≤ net). or_right (nat_lt net inputs) (latch || is_among order number) (ap (λ (gate : Bool). latch || gate) (sym (is_order.each number)) ∙ gate_or_latch cells number (omega arith)) in
      ⊎_elim if_input if_driven (cases_lt net inputs)

  -- one more gate that is done is no other net's
  is_among-more : (place net : ℕ) → place < length order → inputs ≤ net → (net ≡ inputs + get_or order place 0 → ⊥) → is_among (take (place + 1) order) (net - inputs) ≡ is_among (take place order) (net - inputs)
  is_among-more place net within past not_its =
      let number = net - inputs in
      let not_here : eqb (get_or order place 0) number ≡ false = ne_eqb (get_or order place 0) number (λ same. not_its (omega arith)) in
      list_any_more (λ other. eqb other number) order place 0 within ∙ ap (λ (here : Bool). is_among (take place order) number || here) not_here ∙ or-false (is_among (take place order) number)

  -- a net that is ready when one more gate is done is ready before, or it is the gate's
  pub ready_before : (place net : ℕ) → place < length order → (net ≡ inputs + get_or order place 0 → ⊥) → is_ready inputs cells (take (place + 1) order) net ≡ true → is_ready inputs cells (take place order) net ≡ true
  ready_before place net within not_its ready =
      let latch = is_latch (slice_get cells (net - inputs)) in
      let if_input = λ (input : net < inputs). or_left (nat_lt net inputs) (latch || is_among (take place order) (net - inputs)) (lt-ltb net inputs input) in
      let if_driven = λ (past : inputs ≤ net). ap (λ (among : Bool). nat_lt net inputs || (latch || among)) (sym (is_among-more place net within past not_its)) ∙ ready in
      ⊎_elim if_input if_driven (cases_lt net inputs)

  -- what is read at the number at a place of the order is the cell of that number
  pub order_cell : (place : ℕ) (items : List ℕ) (list : List Cell) (cell : Cell) → place < length order → items ≡ order → list ≡ cells → cell ≡ get_or list (get_or items place 0) cell → slice_get cells (get_or order place 0) ≡ Some cell
  order_cell place items list cell within same_items same_list is =
      slice_get_read cells (length cells) (get_or order place 0) cell refl (order_within place within) (is ∙ ap₂ (λ (from : List Cell) (numbers : List ℕ). get_or from (get_or numbers place 0) cell) same_list same_items)

  module _ (place : ℕ) (within : place < length order) (ins : List ℕ) (cover : Cover) (here : slice_get cells (get_or order place 0) ≡ Some (Gate ins cover)) where
    -- the nets that the gate at a place reads are ready when those before it are done
    pub reads_ready : All (λ net. is_ready inputs cells (take place order) net ≡ true) ins
    reads_ready = AllPass-from_list_all (is_ready inputs cells (take place order)) ins (ap (λ (cell : Option Cell). list_all (is_ready inputs cells (take place order)) (read_nets_at cell)) (sym here) ∙ is_order.after place within)
