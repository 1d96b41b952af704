-- Values of nets as gates are worked out, one after the other.
use Rattle.std.proofs.Common.{◌≡◌, ◌≤◌, ◌<◌, ◌+◌, ℕ, Bool, true, false, List, length, take, map, get_or, set, slice_get, slice_index_or, Some, ap, sym, ◌∙◌, ⊎_elim, All, arith}
use Rattle.std.proofs.lemmas.Bool.{cases_eq}
use Rattle.std.proofs.lemmas.Grind.{get_or-set_at}
use Rattle.std.proofs.lemmas.List.{get_or-set_other}
use Rattle.std.proofs.lemmas.List.Elements.{All-weaker}
use Rattle.std.proofs.lemmas.Option.{slice_get_within}
use Rattle.vw_net.specs.declared.cell.Cell.{Cell}
use Rattle.vw_net.specs.declared.cell.Cell.TheVariants.{Gate}
use Rattle.vw_net.specs.declared.cover.Cover.{Cover}
use Rattle.vw_net.specs.Cover.{cover_value}
use Rattle.vw_net.specs.Order.{IsOrder, is_ready}
use Rattle.vw_net.proofs.ReadyNets.{ready_before, reads_ready}
use Rattle.vw_net.proofs.DrivenValues.{map_agree}

module _ {inputs : ℕ} {cells : List Cell} {order : List ℕ} (is_order : IsOrder inputs cells order) where
  module _ (place : ℕ) (within : place < length order) (ins : List ℕ) (cover : Cover) (here : slice_get cells (get_or order place 0) ≡ Some (Gate ins cover)) where
    -- where the nets that are ready have their values, its table gives it its value
    cover_value-gate : (value other : ℕ → Bool) → value (inputs + get_or order place 0) ≡ cover_value cover (map value ins) → ((net : ℕ) → is_ready inputs cells (take place order) net ≡ true → other net ≡ value net) → cover_value cover (map other ins) ≡ value (inputs + get_or order place 0)
    cover_value-gate value other its have =
        let agree : All (λ net. other net ≡ value net) ins = All-weaker (λ net. is_ready inputs cells (take place order) net ≡ true) (λ net. other net ≡ value net) have ins (reads_ready is_order place within ins cover here) in
        ap (cover_value cover) (map_agree other value ins agree) ∙ sym its

    -- so when it is written, the nets that are ready then have theirs
    pub more_have_values : (value : ℕ → Bool) (values after : List Bool) → inputs + length cells ≤ length values → after ≡ set values (inputs + get_or order place 0) (cover_value cover (map (λ net. slice_index_or values net false) ins)) → value (inputs + get_or order place 0) ≡ cover_value cover (map value ins) → ((net : ℕ) → is_ready inputs cells (take place order) net ≡ true → slice_index_or values net false ≡ value net) → (net : ℕ) → is_ready inputs cells (take (place + 1) order) net ≡ true → slice_index_or after net false ≡ value net
    more_have_values value values after fits written its have net ready =
        let number = get_or order place 0 in
        let bit = cover_value cover (map (λ (at : ℕ). slice_index_or values at false) ins) in
        let inside : inputs + number < length values = omega (arith, slice_get_within cells number (Gate ins cover) here) in
        let if_here = λ (same : net ≡ inputs + number). get_or-set_at values (inputs + number) net bit false same inside ∙ cover_value-gate value (λ at. slice_index_or values at false) its have ∙ ap value (sym same) in
        let if_other = λ (other : net ≡ inputs + number → ⊥). get_or-set_other values (inputs + number) net bit false other ∙ have net (ready_before is_order place net within other ready) in
        ap (λ (all : List Bool). slice_index_or all net false) written ∙ ⊎_elim if_here if_other (cases_eq net (inputs + number))
