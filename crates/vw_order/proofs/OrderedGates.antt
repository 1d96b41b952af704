-- Orders of gates, from orders of numbers.
use Rattle.std.proofs.Common.{◌≡◌, ◌<◌, ◌+◌, ◌-◌, ◌||◌, ℕ, zero, suc, Bool, true, false, List, [], ◌∷◌, length, map, take, get_or, slice_get, nat_lt, Option, Some, None, ⊎_elim, refl, sym, ◌∙◌, ap, subst, true≢false, arith}
use Rattle.std.specs.Cmp.{both_ways}
use Rattle.std.specs.List.{All, list_all}
use Rattle.std.proofs.lemmas.Bool.{and_from, or_left, or_right, ltb-false, cases_Bool}
use Rattle.std.proofs.lemmas.Option.{none-some, same_Some, slice_get_within, get_or_from_slice_get}
use Rattle.vw_net.specs.declared.cell.Cell.{Cell}
use Rattle.vw_net.specs.declared.cell.Cell.TheVariants.{Gate, Latch}
use Rattle.vw_net.specs.declared.flat.Flat.{Flat}
use Rattle.vw_net.specs.Order.{IsOrder, is_gate, is_latch, is_among, is_ready, read_nets_at, gate_inputs}
use Rattle.vw_net.proofs.FittingCells.{cell_fits}
use Rattle.vw_net.proofs.Orders.{gate_or_latch, at_among}
use Rattle.vw_order.specs.Graphs.{ReadsAt}
use Rattle.vw_order.specs.Orders.{IsNumberOrder}
use Rattle.vw_order.proofs.Among.{once_apart}
use Rattle.vw_order.specs.Steps.Gates.{gate_of, gates}
use Rattle.vw_order.proofs.Inputs.{is_gate_of}

-- all pass, where each one that has a place does
all_at : (test : ℕ → Bool) (nets : List ℕ) → ((place net : ℕ) → slice_get nets place ≡ Some net → test net ≡ true) → list_all test nets ≡ true
all_at test [] each = refl
all_at test (net ∷ nets) each = and_from (test net) (list_all test nets) (each 0 net refl) (all_at test nets (λ place other at. each (suc place) other at))

map_at_place : (f : ℕ → Option ℕ) (nets : List ℕ) (place net : ℕ) → slice_get nets place ≡ Some net → slice_get (map f nets) place ≡ Some (f net)
map_at_place f [] place net at = absurd (none-some net at)
map_at_place f (first ∷ nets) zero net at = ap (λ (n : ℕ). Some (f n)) (same_Some first net at)
map_at_place f (first ∷ nets) (suc place) net at = map_at_place f nets place net at

module _ (flat : Flat) (order : List ℕ) (far : IsNumberOrder (gates flat) order) where
  -- a net that a gate of the order reads is an input's, a latch's, or that of a gate before it
  ready : (done : List ℕ) (number : ℕ) → ((place other : ℕ) → ReadsAt (gates flat) number place other → is_among done other ≡ true)
      → (found : Option Cell) → slice_get flat.cells number ≡ found → is_gate found ≡ true
      → list_all (is_ready flat.inputs flat.cells done) (read_nets_at found) ≡ true
  ready done number before None is gate = refl
  ready done number before (Some (Latch d init)) is gate = absurd (true≢false (sym gate))
  ready done number before (Some (Gate ins cover)) is gate = all_at (is_ready flat.inputs flat.cells done) ins net_ready where
    net_within : (place net : ℕ) → slice_get ins place ≡ Some net → net < flat.inputs + length flat.cells
    net_within place net at =
        let fits : All (λ (n : ℕ). n < flat.inputs + length flat.cells) ins = (cell_fits (flat.inputs + length flat.cells) flat.cells number (Gate ins cover) flat.cells_fit is).1 in
        subst (λ (n : ℕ). n < flat.inputs + length flat.cells) (get_or_from_slice_get ins place net net at) (fits place net (slice_get_within ins place net at))

    driven : (place net : ℕ) → slice_get ins place ≡ Some net → is_gate (slice_get flat.cells (net - flat.inputs)) ≡ true
        → nat_lt net flat.inputs ≡ false → is_among done (net - flat.inputs) ≡ true
    driven place net at gate_there past =
        let over = ltb-false net flat.inputs past in
        let same : flat.inputs + (net - flat.inputs) ≡ net = omega arith in
        let drives : gate_of flat.inputs flat.cells net ≡ Some (net - flat.inputs) = ap (gate_of flat.inputs flat.cells) (sym same) ∙ is_gate_of flat.inputs flat.cells (net - flat.inputs) gate_there in
        before place (net - flat.inputs)
        (ap (λ (found : Option Cell). slice_get (map (gate_of flat.inputs flat.cells) (gate_inputs found)) place) is
        ∙ map_at_place (gate_of flat.inputs flat.cells) ins place net at ∙ ap (λ (found : Option ℕ). Some found) drives)

    net_ready : (place net : ℕ) → slice_get ins place ≡ Some net → is_ready flat.inputs flat.cells done net ≡ true
    net_ready place net at =
        let latch_there = is_latch (slice_get flat.cells (net - flat.inputs)) in
        let done_there = is_among done (net - flat.inputs) in
        ⊎_elim
        (λ input. or_left (nat_lt net flat.inputs) (latch_there || done_there) input)
        (λ past. or_right (nat_lt net flat.inputs) (latch_there || done_there)
        (⊎_elim
        (λ latch. or_left latch_there done_there latch)
        (λ no_latch. or_right latch_there done_there (driven place net at (no_latch_gate past (net_within place net at) no_latch) past))
        (cases_Bool latch_there)))
        (cases_Bool (nat_lt net flat.inputs))
      where
        no_latch_gate : nat_lt net flat.inputs ≡ false → net < flat.inputs + length flat.cells
            → is_latch (slice_get flat.cells (net - flat.inputs)) ≡ false → is_gate (slice_get flat.cells (net - flat.inputs)) ≡ true
        no_latch_gate past below no_latch =
            let over = ltb-false net flat.inputs past in
            let within_there : net - flat.inputs < length flat.cells = omega arith in
            rw no_latch at (gate_or_latch flat.cells (net - flat.inputs) within_there)

  pub is_order : IsOrder flat.inputs flat.cells order
  is_order = record {
    each = λ number. both_ways (is_gate (slice_get flat.cells number)) (is_among order number) (far.all number) (far.counted number);
    once = once_apart order far.once;
    after = λ i within. ready (take i order) (get_or order i 0) (λ place other reads. far.behind i place other within reads) (slice_get flat.cells (get_or order i 0)) refl (far.counted (get_or order i 0) (at_among order i 0 within));
  }
