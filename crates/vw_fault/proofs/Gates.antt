-- What is found of nets in a lane as gates are worked out, one after the other.
use Rattle.std.proofs.Common.{◌≡◌, ◌≤◌, ◌<◌, ◌+◌, ◌∙◌, ℕ, Bool, true, false, List, length, take, map, get_or, set, slice_get, slice_index_or, Some, ap, sym, ⊎_elim, All, arith}
use Rattle.std.proofs.lemmas.Bool.{cases_eq}
use Rattle.std.proofs.lemmas.Grind.{get_or-set_at}
use Rattle.std.proofs.lemmas.List.{get_or-set_other}
use Rattle.std.proofs.lemmas.List.Elements.{All-weaker}
use Rattle.std.proofs.lemmas.Option.{slice_get_within}
use Rattle.vw_net.specs.declared.cell.Cell.{Cell}
use Rattle.vw_net.specs.declared.cell.Cell.TheVariants.{Gate}
use Rattle.vw_net.specs.declared.cover.Cover.{Cover}
use Rattle.vw_net.specs.Cover.{cover_value}
use Rattle.vw_net.specs.Order.{IsOrder, is_ready}
use Rattle.vw_net.proofs.ReadyNets.{ready_before, reads_ready}
use Rattle.vw_net.proofs.DrivenValues.{map_agree}

module _ {inputs : ℕ} {cells : List Cell} {order : List ℕ} (is_order : IsOrder inputs cells order) (find : ℕ → Bool → Bool) where
  module _ (place : ℕ) (within : place < length order) (ins : List ℕ) (cover : Cover) (here : slice_get cells (get_or order place 0) ≡ Some (Gate ins cover)) where
    abbrev net_here : ℕ
    net_here = inputs + get_or order place 0

    -- where the nets that are ready have their values, its net has its own when what is found of it is written
    pub more_have_values : (value : ℕ → Bool) (values after : List Bool) (bit : Bool) → inputs + length cells ≤ length values
        → after ≡ set values net_here bit → bit ≡ find net_here (cover_value cover (map (λ net. slice_index_or values net false) ins))
        → value net_here ≡ find net_here (cover_value cover (map value ins))
        → ((net : ℕ) → is_ready inputs cells (take place order) net ≡ true → slice_index_or values net false ≡ value net) → (net : ℕ)
        → is_ready inputs cells (take (place + 1) order) net ≡ true → slice_index_or after net false ≡ value net
    more_have_values value values after bit fits written is its have net ready =
        let other = λ (at : ℕ). slice_index_or values at false in
        let agree : All (λ at. other at ≡ value at) ins = All-weaker (λ at. is_ready inputs cells (take place order) at ≡ true) (λ at. other at ≡ value at) have ins (reads_ready is_order place within ins cover here) in
        let has = is ∙ ap (λ (bits : List Bool). find net_here (cover_value cover bits)) (map_agree other value ins agree) ∙ sym its in
        let inside : net_here < length values = omega (arith, slice_get_within cells (get_or order place 0) (Gate ins cover) here) in
        let if_here = λ (same : net ≡ net_here). get_or-set_at values net_here net bit false same inside ∙ has ∙ ap value (sym same) in
        let if_other = λ (other : net ≡ net_here → ⊥). get_or-set_other values net_here net bit false other ∙ have net (ready_before is_order place net within other ready) in
        ap (λ (all : List Bool). slice_index_or all net false) written ∙ ⊎_elim if_here if_other (cases_eq net net_here)
