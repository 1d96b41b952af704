-- The last of some hops.
use Rattle.std.proofs.Common.{◌≡◌, ◌+◌, ◌-◌, suc, List, [], ◌∷◌, length, slice_get, Some, ap, sym, arith}
use Rattle.vw_plan.specs.declared.link.Link.{Link}
use Rattle.vw_plan.specs.declared.wire.Hop.{Hop}
use Rattle.vw_plan.specs.Lead.{after_last, arrival}

pub after_last-last : (links : List Link) (hops : List Hop) (last : Hop) → slice_get hops (length hops - 1) ≡ Some last → arrival links last + 1 ≡ after_last links hops
after_last-last links [] last is = cc
after_last-last links (hop ∷ []) last is = let same : hop ≡ last = cc in ap (λ (one : Hop). arrival links one + 1) (sym same)
after_last-last links (hop ∷ next ∷ hops) last is =
    let later : length (hop ∷ next ∷ hops) - 1 ≡ suc (length (next ∷ hops) - 1) = omega arith in
    after_last-last links (next ∷ hops) last (rw later at is)
