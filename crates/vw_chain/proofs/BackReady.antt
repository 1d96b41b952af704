-- Back from a net over gates, against their order.
use Rattle.std.proofs.Common.{◌≡◌, ◌<◌, ◌+◌, ◌-◌, ◌||◌, ◌⊎◌, ℕ, true, false, Bool, List, [], length, take, get_or, nat_lt, slice_get, Option, None, Some, eq-eqb, ap, refl, sym, subst, ◌∙◌, ⊎_elim, inl, inr, true≢false, if◌then◌else◌}
use Rattle.std.proofs.Math.Bool.{or-false}
use Rattle.std.proofs.lemmas.Bool.{or_cases}
use Rattle.vw_net.specs.declared.cell.Cell.{Cell}
use Rattle.vw_net.specs.declared.cell.Cell.TheVariants.{Gate, Latch}
use Rattle.vw_net.specs.Order.{is_latch, is_ready}
use Rattle.vw_net.proofs.Orders.{among_at}
use Rattle.vw_net.proofs.ReadyNets.{order_gate, reads_ready, ready_before}
use Rattle.vw_plan.specs.Lead.{brought_at, lead}
use Rattle.vw_plan.specs.Nets.{driving_cell, greatest_read}
use Rattle.vw_plan.specs.PlannedBoard.{PlannedBoard, home}
use Rattle.vw_plan.proofs.LeadLevels.{lead-by_driver}
use Rattle.vw_chain.specs.Steps.{IsFirst, IsLastRead, net_of}
use Rattle.vw_chain.proofs.GateReads.{gate_by, reads}

-- a latch rests on nothing within a clock
latch_rests : (f : ℕ → ℕ) (cell : Option Cell) → is_latch cell ≡ true → greatest_read f cell ≡ 0
latch_rests f None latch = refl
latch_rests f (Some (Gate ins cover)) latch = absurd (true≢false (sym latch))
latch_rests f (Some (Latch d init)) latch = refl

module _ (planned : PlannedBoard) where
  abbrev inputs : ℕ
  inputs = planned.ordered.flat.inputs

  abbrev cells : List Cell
  cells = planned.ordered.flat.cells

  abbrev order : List ℕ
  order = planned.ordered.order

  abbrev IsReady : ℕ → ℕ → Type 0
  IsReady place net = is_ready inputs cells (take place order) net ≡ true

  own_lead : (net : ℕ) → lead planned (home planned net) net ≡ greatest_read (lead planned (home planned net)) (driving_cell planned.ordered.flat net)
  own_lead net = lead-by_driver planned (home planned net) net
      ∙ ap (λ (own : Bool). if own then greatest_read (lead planned (home planned net)) (driving_cell planned.ordered.flat net) else brought_at planned (home planned net) net) (eq-eqb (home planned net) (home planned net) refl)

  -- a net that rests on no gate is there from the beginning on
  start_first : (net : ℕ) → is_ready inputs cells [] net ≡ true → IsFirst planned net
  start_first net ready =
      let f = lead planned (home planned net) in
      let cell = slice_get cells (net - inputs) in
      let if_input = λ (input : nat_lt net inputs ≡ true). own_lead net ∙ ap (λ (is : Bool). greatest_read f (if is then None else cell)) input in
      let if_latch = λ (latch : (is_latch cell || false) ≡ true). own_lead net
      ∙ (elim (nat_lt net inputs) as (λ is. greatest_read f (if is then None else cell) ≡ 0) [ true ↦ refl | false ↦ latch_rests f cell (sym (or-false (is_latch cell)) ∙ latch) ]) in
      ⊎_elim if_input if_latch (or_cases (nat_lt net inputs) (is_latch cell || false) ready)

  -- so in the end what was gone back to is there from the beginning on
  pub ends_first : (place net : ℕ) → place ≡ 0 → IsReady place net ⊎ IsFirst planned net → IsFirst planned net
  ends_first place net none ready =
      ⊎_elim (λ (is : IsReady place net). start_first net (subst (λ (count : ℕ). IsReady count net) none is)) (λ first. first) ready

  -- the net that the gate at a place reads last rests on gates before it alone
  pub read_ready : (place net : ℕ) → place < length order → IsLastRead planned (get_or order place 0) net → IsReady place net
  read_ready place net within its =
      let number = get_or order place 0 in
      let gate = gate_by (slice_get cells number) (order_gate planned.ordered.is_order place within) in
      let at = among_at gate.0 net (sym (reads planned number gate.0 gate.1 gate.2 net) ∙ its.read) in
      subst (IsReady place) at.2 (reads_ready planned.ordered.is_order place within gate.0 gate.1 gate.2 at.0 0 at.1)

  -- another net that rests on gates up to the place rests on those before it
  pub other_ready : (place net : ℕ) → place < length order → ¬ (net ≡ net_of planned (get_or order place 0)) ⊎ IsFirst planned net
      → IsReady (place + 1) net ⊎ IsFirst planned net → IsReady place net ⊎ IsFirst planned net
  other_ready place net within (inr first) ready = inr first
  other_ready place net within (inl not) (inl ready) = inl (ready_before planned.ordered.is_order place net within not ready)
  other_ready place net within (inl not) (inr first) = inr first
