-- Nets that lead to nets with the same values, as tables are put together.
use Rattle.std.proofs.Common.{◌⊎◌, inl, inr, ◌≡◌, ◌≤◌, ◌<◌, ◌+◌, ◌-◌, ◌++◌, ◌∙◌, ℕ, zero, suc, Bool, true, List, [], ◌∷◌, length, map, take, set, slice_get, Option, Some, None, ap, sym, refl, subst, ⊎_elim, append_assoc, arith}
use Rattle.std.proofs.lemmas.Bool.{cases_eq, lt-ltb}
use Rattle.std.proofs.lemmas.Option.{none-some, same_Some}
use Rattle.vw_net.specs.declared.cell.Cell.{Cell}
use Rattle.vw_net.specs.declared.cell.Cell.TheVariants.{Gate, Latch}
use Rattle.vw_net.specs.declared.cover.Cover.{Cover}
use Rattle.vw_net.specs.declared.flat.Flat.{Flat}
use Rattle.vw_net.specs.Cells.{latch_count}
use Rattle.vw_net.specs.Cover.{cover_value}
use Rattle.vw_net.specs.Order.{is_latch}
use Rattle.vw_net.specs.Value.{net_value}
use Rattle.vw_net.proofs.Levels.{net_value-input, net_value-latch}
use Rattle.vw_merge.specs.Merging.{AreSettled, Carries, SameThere, input_starts, latch_starts}
use Rattle.vw_merge.proofs.ListEnds.{front_there, last_there, written_there, other_there}

-- one net more that leads somewhere
pub one_more_leads : (to : List (Option ℕ)) (net : ℕ) (same : Option ℕ) (value other : ℕ → Bool) → SameThere to value other
    → ((new : ℕ) → same ≡ Some new → value new ≡ other net) → SameThere (set to net same) value other
one_more_leads to net same value other there here at new is = ⊎_elim if_here if_other (cases_eq at net) where
  if_here : at ≡ net → value new ≡ other at
  if_here e = here new (written_there to net at same (Some new) e is) ∙ ap other (sym e)

  if_other : (at ≡ net → ⊥) → value new ≡ other at
  if_other apart = there at new (other_there to net at same (Some new) apart is)

-- values that settle more tables settle fewer
pub settled_before : (inputs latches : ℕ) (gates : List Cell) (gate : Cell) (row state : List Bool) (value : ℕ → Bool)
    → AreSettled inputs latches (gates ++ gate ∷ []) row state value → AreSettled inputs latches gates row state value
settled_before inputs latches gates gate row state value settled = record {
  of_inputs = settled.of_inputs;
  of_latches = settled.of_latches;
  of_gates = λ place ins cover is. settled.of_gates place ins cover (front_there gates (gate ∷ []) place (Gate ins cover) is);
}

module _ (flat : Flat) (gates : List Cell) (to after : List (Option ℕ)) (net : ℕ) where
  -- one table more
  pub gate_carries : (new : ℕ) (ins nets : List ℕ) (cover : Cover) (more : List Cell) → Carries flat gates to
      → ((value other : ℕ → Bool) → SameThere to value other → map value ins ≡ map other nets)
      → ((row state : List Bool) → cover_value cover (map (net_value flat row state) nets) ≡ net_value flat row state net)
      → new ≡ flat.inputs + latch_count flat.cells + length gates → after ≡ set to net (Some new) → more ≡ gates ++ Gate ins cover ∷ []
      → Carries flat more after
  gate_carries new ins nets cover more carries same its new_is written pushed = λ row state value settled.
      let now : AreSettled flat.inputs (latch_count flat.cells) (gates ++ Gate ins cover ∷ []) row state value = subst (λ (cells : List Cell). AreSettled flat.inputs (latch_count flat.cells) cells row state value) pushed settled in
      let there = carries row state value (settled_before flat.inputs (latch_count flat.cells) gates (Gate ins cover) row state value now) in
      let here : value new ≡ net_value flat row state net = ap value new_is ∙ now.of_gates (length gates) ins cover (last_there gates (Gate ins cover)) ∙ ap (cover_value cover) (same value (net_value flat row state) there) ∙ its row state in
      subst (λ (list : List (Option ℕ)). SameThere list value (net_value flat row state)) (sym written)
      (one_more_leads to net (Some new) value (net_value flat row state) there (λ at is. ap value (sym (same_Some new at is)) ∙ here))

  -- a net that leads where another one does
  pub other_carries : (other : ℕ) (same : Option ℕ) → Carries flat gates to
      → ((value its : ℕ → Bool) → SameThere to value its → (new : ℕ) → same ≡ Some new → value new ≡ its other)
      → ((row state : List Bool) → net_value flat row state other ≡ net_value flat row state net)
      → after ≡ set to net same → Carries flat gates after
  other_carries other same carries leads equal written = λ row state value settled.
      let there = carries row state value settled in
      subst (λ (list : List (Option ℕ)). SameThere list value (net_value flat row state)) (sym written)
      (one_more_leads to net same value (net_value flat row state) there (λ new is. leads value (net_value flat row state) there new is ∙ equal row state))

-- ---- before there are tables

inputs_lead : (count first : ℕ) (rest : List (Option ℕ)) (at new : ℕ) → slice_get (input_starts first count ++ rest) at ≡ Some (Some new)
    → ((at < count) × (new ≡ first + at)) ⊎ ((count ≤ at) × (slice_get rest (at - count) ≡ Some (Some new)))
inputs_lead zero first rest at new is =
    let same : at - 0 ≡ at = omega arith in
    inr (omega arith, ap (λ (n : ℕ). slice_get rest n) same ∙ is)
inputs_lead (suc count) first rest zero new is = inl (omega arith, omega (arith, same_Some first new (same_Some (Some first) (Some new) is)))
inputs_lead (suc count) first rest (suc at) new is =
    let same : suc at - suc count ≡ at - count = omega arith in
    ⊎_elim
    (λ found. inl (omega (arith, found.0), omega (arith, found.1)))
    (λ past. inr (omega (arith, past.0), ap (λ (n : ℕ). slice_get rest n) same ∙ past.1))
    (inputs_lead count (suc first) rest at new is)

latches_lead : (cells : List Cell) (next at new : ℕ) → slice_get (latch_starts next cells) at ≡ Some (Some new)
    → (is_latch (slice_get cells at) ≡ true) × (new ≡ next + latch_count (take at cells)) × (latch_count (take at cells) < latch_count cells)
latches_lead [] next at new is = absurd (none-some (Some new) is)
latches_lead (Gate ins cover ∷ cells) next zero new is = absurd (none-some new (same_Some None (Some new) is))
latches_lead (Gate ins cover ∷ cells) next (suc at) new is = latches_lead cells next at new is
latches_lead (Latch d init ∷ cells) next zero new is = (refl, omega (arith, same_Some next new (same_Some (Some next) (Some new) is)), omega arith)
latches_lead (Latch d init ∷ cells) next (suc at) new is =
    let rest = latches_lead cells (next + 1) at new is in
    (rest.0, omega (arith, rest.1), omega (arith, rest.2))

pub starts_carry : (flat : Flat) (to : List (Option ℕ)) → to ≡ input_starts 0 flat.inputs ++ latch_starts flat.inputs flat.cells → Carries flat [] to
starts_carry flat to are = λ row state value settled net new is.
    let there : slice_get (input_starts 0 flat.inputs ++ latch_starts flat.inputs flat.cells) net ≡ Some (Some new) = ap (λ (list : List (Option ℕ)). slice_get list net) (sym are) ∙ is in
    ⊎_elim
    (λ found. ap value (omega (arith, found.1)) ∙ settled.of_inputs net found.0 ∙ sym (net_value-input flat row state net (lt-ltb net flat.inputs found.0)))
    (λ past.
    let number = net - flat.inputs in
    let its = latches_lead flat.cells flat.inputs number new past.1 in
    let whole : flat.inputs + number ≡ net = omega (arith, past.0) in
    ap value its.1 ∙ settled.of_latches (latch_count (take number flat.cells)) its.2 ∙ sym (net_value-latch flat row state number its.0) ∙ ap (net_value flat row state) whole)
    (inputs_lead flat.inputs 0 (latch_starts flat.inputs flat.cells) net new there)

-- an input more
pub input_further : (to more : List (Option ℕ)) (net inputs : ℕ) → net < inputs → more ≡ to ++ Some net ∷ [] → to ++ input_starts net (inputs - net) ≡ input_starts 0 inputs
    → more ++ input_starts (net + 1) (inputs - (net + 1)) ≡ input_starts 0 inputs
input_further to more net inputs low is so_far =
    let rest = input_starts (net + 1) (inputs - (net + 1)) in
    let count : inputs - net ≡ suc (inputs - (net + 1)) = omega (arith, low) in
    let next : suc net ≡ net + 1 = omega arith in
    let opened : input_starts net (inputs - net) ≡ Some net ∷ rest = ap (input_starts net) count ∙ ap (λ (n : ℕ). Some net ∷ input_starts n (inputs - (net + 1))) next in
    ap (λ (list : List (Option ℕ)). list ++ rest) is ∙ append_assoc to (Some net ∷ []) rest ∙ ap (λ (list : List (Option ℕ)). to ++ list) (sym opened) ∙ so_far
