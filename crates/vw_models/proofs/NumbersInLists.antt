-- Numbers among others, by the relation.
use Rattle.std.proofs.Common.{◌≡◌, ◌==◌, ℕ, true, List, refl, subst}
use Rattle.std.proofs.lemmas.Bool.{eqb-true, eq-eqb}
use Rattle.vw_net.specs.Order.{is_among}
use Rattle.vw_design.proofs.ListElements.{Has, any-Has, from-any}

-- the test and the relation
pub among_Has : (numbers : List ℕ) (number : ℕ) → is_among numbers number ≡ true → Has number numbers
among_Has numbers number among =
    let found = from-any (λ (other : ℕ). other == number) numbers among in
    subst (λ (n : ℕ). Has n numbers) (eqb-true found.0 number found.2) found.1

pub Has_among : (numbers : List ℕ) (number : ℕ) → Has number numbers → is_among numbers number ≡ true
Has_among numbers number has = any-Has (λ (other : ℕ). other == number) number numbers has (eq-eqb number number refl)
