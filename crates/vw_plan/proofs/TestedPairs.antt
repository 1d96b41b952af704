-- Facts on each two elements of a list, from a test.
use Rattle.std.proofs.Common.{◌≡◌, ◌&&◌, zero, suc, Bool, true, List, [], ◌∷◌, arith}
use Rattle.std.specs.List.{AllPairs, list_all}
use Rattle.std.proofs.lemmas.Bool.{and_parts}
use Rattle.std.proofs.lemmas.List.Sums.{AllPass-from_list_all}

-- whether each element passes a test with each one after it
abbrev pub all_pairs : {X : Type 0} → (X → X → Bool) → List X → Bool
all_pairs test [] = true
all_pairs test (x ∷ xs) = list_all (test x) xs && all_pairs test xs

pub AllPairs-from_all_pairs : {X : Type 0} (test : X → X → Bool) (xs : List X) → all_pairs test xs ≡ true → AllPairs (λ x y. test x y ≡ true) xs
AllPairs-from_all_pairs test [] passes i j default before within = absurd (omega arith)
AllPairs-from_all_pairs test (x ∷ xs) passes zero zero default before within = absurd (omega arith)
AllPairs-from_all_pairs test (x ∷ xs) passes zero (suc j) default before within = AllPass-from_list_all (test x) xs (and_parts (list_all (test x) xs) (all_pairs test xs) passes).0 j default (omega arith)
AllPairs-from_all_pairs test (x ∷ xs) passes (suc i) zero default before within = absurd (omega arith)
AllPairs-from_all_pairs test (x ∷ xs) passes (suc i) (suc j) default before within = AllPairs-from_all_pairs test xs (and_parts (list_all (test x) xs) (all_pairs test xs) passes).1 i j default (omega arith) (omega arith)
