-- Where gates have an order, they don't read each other in a circle.
use Rattle.std.proofs.Common.{◌≡◌, ◌<◌, ◌+◌, ◌-◌, ◌||◌, ◌&&◌, ◌==◌, ℕ, Bool, true, false, List, [], ◌∷◌, ◌++◌, take, slice_get, nat_lt, Option, Some, None, ⊎_elim, refl, sym, ◌∙◌, ap, subst, true≢false, arith}
use Rattle.std.specs.List.{list_all, AllZip}
use Rattle.std.proofs.lemmas.Bool.{and_parts, or_cases, eqb-true, le-ltb}
use Rattle.vw_net.specs.declared.cell.Cell.{Cell}
use Rattle.vw_net.specs.declared.cell.Cell.TheVariants.{Gate, Latch}
use Rattle.vw_net.specs.declared.flat.Flat.{Flat}
use Rattle.vw_net.specs.Order.{IsOrder, is_gate, is_latch, is_among, is_ready, read_nets_at}
use Rattle.vw_order.proofs.Among.{front_position, place_among, at_place}
use Rattle.vw_order.specs.GateReads.{gate_reads}
use Rattle.vw_order.specs.Loops.{IsGateCircle}

-- each that is among others passes where all do
one_of : (test : ℕ → Bool) (nets : List ℕ) (net : ℕ) → list_all test nets ≡ true → is_among nets net ≡ true → test net ≡ true
one_of test [] net all among = absurd (true≢false (sym among))
one_of test (first ∷ nets) net all among =
    let parts = and_parts (test first) (list_all test nets) all in
    ⊎_elim (λ here. ap test (sym (eqb-true first net here)) ∙ parts.0) (λ there. one_of test nets net parts.1 there) (or_cases (first == net) (is_among nets net) among)

not_latch : (found : Option Cell) → is_gate found ≡ true → is_latch found ≡ false
not_latch None gate = refl
not_latch (Some (Gate ins cover)) gate = refl
not_latch (Some (Latch d init)) gate = absurd (true≢false (sym gate))

module _ (flat : Flat) (order : List ℕ) (is_order : IsOrder flat.inputs flat.cells order) where
  -- a gate whose net is read stands before the gate that reads it
  before : (number other : ℕ) → gate_reads flat number other ≡ true → place_among order other < place_among order number
  before number other reads =
      let parts = and_parts (is_gate (slice_get flat.cells number)) (is_gate (slice_get flat.cells other) && is_among (read_nets_at (slice_get flat.cells number)) (flat.inputs + other)) reads in
      let more = and_parts (is_gate (slice_get flat.cells other)) (is_among (read_nets_at (slice_get flat.cells number)) (flat.inputs + other)) parts.1 in
      let at = at_place order number (sym (is_order.each number) ∙ parts.0) in
      let done = take (place_among order number) order in
      let all : list_all (is_ready flat.inputs flat.cells done) (read_nets_at (slice_get flat.cells number)) ≡ true =
      subst (λ (n : ℕ). list_all (is_ready flat.inputs flat.cells done) (read_nets_at (slice_get flat.cells n)) ≡ true) at.1 (is_order.after (place_among order number) at.0) in
      let ready : is_ready flat.inputs flat.cells done (flat.inputs + other) ≡ true = one_of (is_ready flat.inputs flat.cells done) (read_nets_at (slice_get flat.cells number)) (flat.inputs + other) all more.1 in
      let its_number : flat.inputs + other - flat.inputs ≡ other = omega arith in
      let no_input : nat_lt (flat.inputs + other) flat.inputs ≡ false = le-ltb (flat.inputs + other) flat.inputs (omega arith) in
      let there : (is_latch (slice_get flat.cells other) || is_among done other) ≡ true = rw (no_input, its_number) at ready in
      let gate_there : is_among done other ≡ true = rw (not_latch (slice_get flat.cells other) more.0) at there in
      front_position (λ (n : ℕ). n == other) order (place_among order number) gate_there

  -- along gates of which each reads the next, places fall
  falls : (number : ℕ) (numbers : List ℕ) (last : ℕ)
      → AllZip (λ one next. gate_reads flat one next ≡ true) (number ∷ numbers) (numbers ++ last ∷ [])
      → place_among order last < place_among order number
  falls number [] last along = before number last along.0
  falls number (next ∷ numbers) last along = omega (arith, before number next along.0, falls next numbers last along.1)

  pub no_circle : (numbers : List ℕ) → IsGateCircle flat numbers → ⊥
  no_circle [] circle = omega (arith, circle.some)
  no_circle (number ∷ numbers) circle = omega (arith, falls number numbers number circle.each)
