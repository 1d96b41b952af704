-- Values of nets that no gate drives.
use Rattle.std.proofs.Common.{◌≡◌, ◌<◌, ◌+◌, ◌-◌, ◌||◌, not, ℕ, Bool, true, false, List, [], length, take, slice_get, slice_index_or, nat_lt, ap, sym, ◌∙◌, ⊎_elim, arith}
use Rattle.std.proofs.Math.Bool.{or-false}
use Rattle.std.proofs.lemmas.Bool.{cases_Bool, or_left, ltb-true, ltb-false}
use Rattle.vw_net.specs.declared.flat.Flat.{Flat}
use Rattle.vw_net.specs.Cells.{latch_count}
use Rattle.vw_net.specs.Order.{is_latch, is_ready}
use Rattle.vw_net.specs.Value.{net_value}
use Rattle.vw_net.proofs.Levels.{net_value-input, net_value-latch}

module _ (flat : Flat) (row state : List Bool) where
  -- where the bits of the inputs and then those of the latches are put, each net that no gate drives has its value
  pub net_value-before_gates : (before values : List Bool) → length row ≡ flat.inputs
      → ((net : ℕ) → net < length row → slice_index_or before net false ≡ slice_index_or row net false)
      → ((number : ℕ) → is_latch (slice_get flat.cells number) ≡ true → slice_index_or values (flat.inputs + number) false ≡ slice_index_or state (latch_count (take number flat.cells)) false)
      → ((net : ℕ) → (nat_lt net flat.inputs || not (is_latch (slice_get flat.cells (net - flat.inputs)))) ≡ true → slice_index_or values net false ≡ slice_index_or before net false)
      → (net : ℕ) → is_ready flat.inputs flat.cells [] net ≡ true → slice_index_or values net false ≡ net_value flat row state net
  net_value-before_gates before values columns inputs bits rest net ready = ⊎_elim if_input if_latch (cases_Bool (nat_lt net flat.inputs)) where
    if_input : nat_lt net flat.inputs ≡ true → slice_index_or values net false ≡ net_value flat row state net
    if_input input =
        let same = rest net (or_left (nat_lt net flat.inputs) (not (is_latch (slice_get flat.cells (net - flat.inputs)))) input) in
        same ∙ inputs net (omega (arith, ltb-true net flat.inputs input)) ∙ sym (net_value-input flat row state net input)

    if_latch : nat_lt net flat.inputs ≡ false → slice_index_or values net false ≡ net_value flat row state net
    if_latch past =
        let number = net - flat.inputs in
        let is_its : is_latch (slice_get flat.cells number) ≡ true = sym (or-false (is_latch (slice_get flat.cells number))) ∙ (rw past at ready) in
        let its_net : net ≡ flat.inputs + number = omega (arith, ltb-false net flat.inputs past) in
        ap (λ (at : ℕ). slice_index_or values at false) its_net ∙ bits number is_its ∙ sym (net_value-latch flat row state number is_its) ∙ ap (net_value flat row state) (sym its_net)
