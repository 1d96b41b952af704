-- What is found of nets that no gate drives, and the state after a clock.
use Rattle.std.proofs.Common.{◌≡◌, ◌<◌, ◌+◌, ◌-◌, ◌||◌, ◌∙◌, not, ℕ, Bool, true, false, List, [], length, take, map, slice_get, slice_index_or, nat_lt, ap, sym, ⊎_elim, arith}
use Rattle.std.proofs.Math.Bool.{or-false}
use Rattle.std.proofs.lemmas.Bool.{cases_Bool, or_left, ltb-true, ltb-false}
use Rattle.std.proofs.lemmas.List.Elements.{All-weaker}
use Rattle.vw_net.specs.declared.flat.Flat.{Flat}
use Rattle.vw_net.specs.Cells.{latch_count, latch_inputs}
use Rattle.vw_net.specs.FoundValue.{found_value}
use Rattle.vw_net.specs.Order.{is_latch, is_ready}
use Rattle.vw_net.proofs.DrivenValues.{map_agree}
use Rattle.vw_net.proofs.FoundLevels.{found_value-input, found_value-latch}
use Rattle.vw_net.proofs.LatchValues.{latch_inputs-within}
use Rattle.vw_fault.specs.Found.{found_next_state}

module _ (find : ℕ → Bool → Bool) (flat : Flat) (row state : List Bool) where
  -- where what is found of the inputs and then of the latches is put, each net that no gate drives has what is found of it
  pub found_value-before_gates : (before values : List Bool) → length row ≡ flat.inputs
      → ((net : ℕ) → net < length row → slice_index_or before net false ≡ find net (slice_index_or row net false))
      → ((number : ℕ) → is_latch (slice_get flat.cells number) ≡ true → slice_index_or values (flat.inputs + number) false ≡ find (flat.inputs + number) (slice_index_or state (latch_count (take number flat.cells)) false))
      → ((net : ℕ) → (nat_lt net flat.inputs || not (is_latch (slice_get flat.cells (net - flat.inputs)))) ≡ true → slice_index_or values net false ≡ slice_index_or before net false)
      → (net : ℕ) → is_ready flat.inputs flat.cells [] net ≡ true → slice_index_or values net false ≡ found_value find flat row state net
  found_value-before_gates before values columns inputs bits rest net ready = ⊎_elim if_input if_latch (cases_Bool (nat_lt net flat.inputs)) where
    if_input : nat_lt net flat.inputs ≡ true → slice_index_or values net false ≡ found_value find flat row state net
    if_input input =
        let same = rest net (or_left (nat_lt net flat.inputs) (not (is_latch (slice_get flat.cells (net - flat.inputs)))) input) in
        same ∙ inputs net (omega (arith, ltb-true net flat.inputs input)) ∙ sym (found_value-input find flat row state net input)

    if_latch : nat_lt net flat.inputs ≡ false → slice_index_or values net false ≡ found_value find flat row state net
    if_latch past =
        let number = net - flat.inputs in
        let is_its : is_latch (slice_get flat.cells number) ≡ true = sym (or-false (is_latch (slice_get flat.cells number))) ∙ (rw past at ready) in
        let its_net : net ≡ flat.inputs + number = omega (arith, ltb-false net flat.inputs past) in
        ap (λ (at : ℕ). slice_index_or values at false) its_net ∙ bits number is_its ∙ sym (found_value-latch find flat row state number is_its) ∙ ap (found_value find flat row state) (sym its_net)

  -- where each net has what is found of it, the bits of the nets that latches take are the state after the clock
  pub next_state-from_found : (value : ℕ → Bool)
      → ((net : ℕ) → net < flat.inputs + length flat.cells → value net ≡ found_value find flat row state net)
      → map value (latch_inputs flat.cells) ≡ found_next_state find flat row state
  next_state-from_found value have =
      let nets = flat.inputs + length flat.cells in
      let found = found_value find flat row state in
      map_agree value found (latch_inputs flat.cells) (All-weaker (λ net. net < nets) (λ net. value net ≡ found net) have (latch_inputs flat.cells) (latch_inputs-within nets flat.cells flat.cells_fit))
