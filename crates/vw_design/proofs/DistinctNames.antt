-- Lists of names that are all different: their parts, two of them together, and names that are made from different things.
use Rattle.std.proofs.Common.{◌≡◌, ◌<◌, ◌≤◌, ◌+◌, ℕ, zero, suc, true, false, not, List, [], ◌∷◌, ◌++◌, map, flat_map, inl, inr, ⊎_elim, refl, sym, ◌∙◌, subst, true≢false, arith}
use Rattle.std.specs.List.{range_with_len}
use Rattle.std.proofs.lemmas.Bool.{and_parts, and_from, not-true, not_from_false, false_from_ne_true}
use Rattle.vw_design.specs.Distinct.{has_name, are_distinct}
use Rattle.vw_design.specs.Paths.{Word}
use Rattle.vw_design.proofs.ListElements.{Has, Has-left, Has-right, Has-append, from-map, from-flat_map}
use Rattle.vw_design.proofs.Names.{has_name-Has, Has-has_name}

-- a name that is none of some names isn't found among them
pub none_named : (names : List Word) (name : Word) → (Has name names → ⊥) → has_name names name ≡ false
none_named names name none = false_from_ne_true (has_name names name) (λ has. none (Has-has_name names name has))

-- ---- parts of lists that are distinct

-- the first of distinct names is none of the others
pub distinct_first : (name : Word) (names : List Word) → are_distinct (name ∷ names) ≡ true → Has name names → ⊥
distinct_first name names all has =
    let fresh = not-true (has_name names name) (and_parts (not (has_name names name)) (are_distinct names) all).0 in
    true≢false (sym (has_name-Has names name has) ∙ fresh)

-- and the others are distinct
pub distinct_rest : (name : Word) (names : List Word) → are_distinct (name ∷ names) ≡ true → are_distinct names ≡ true
distinct_rest name names all = (and_parts (not (has_name names name)) (are_distinct names) all).1

-- a name before distinct names, of which it is none
pub distinct_more : (name : Word) (names : List Word) → (Has name names → ⊥) → are_distinct names ≡ true → are_distinct (name ∷ names) ≡ true
distinct_more name names none all =
    and_from (not (has_name names name)) (are_distinct names) (not_from_false (has_name names name) (none_named names name none)) all

-- the front of a distinct list is distinct
pub distinct_front : (names others : List Word) → are_distinct (names ++ others) ≡ true → are_distinct names ≡ true
distinct_front [] others all = refl
distinct_front (name ∷ names) others all =
    distinct_more name names (λ has. distinct_first name (names ++ others) all (Has-left name names others has))
    (distinct_front names others (distinct_rest name (names ++ others) all))

-- and so is what stands behind a front
pub distinct_back : (names others : List Word) → are_distinct (names ++ others) ≡ true → are_distinct others ≡ true
distinct_back [] others all = all
distinct_back (name ∷ names) others all = distinct_back names others (distinct_rest name (names ++ others) all)

-- the two have no common name
pub distinct_apart : (names others : List Word) → are_distinct (names ++ others) ≡ true → (name : Word) → Has name names → Has name others → ⊥
distinct_apart [] others all name has has_too = has
distinct_apart (first ∷ names) others all name has has_too =
    ⊎_elim
    (λ same. distinct_first first (names ++ others) all (Has-right first names others (subst (λ (w : Word). Has w others) (sym same) has_too)))
    (λ later. distinct_apart names others (distinct_rest first (names ++ others) all) name later has_too) has

-- two distinct lists without a common name are distinct together
pub distinct_append : (names others : List Word) → are_distinct names ≡ true → are_distinct others ≡ true
    → ((name : Word) → Has name names → Has name others → ⊥)
    → are_distinct (names ++ others) ≡ true
distinct_append [] others all all_too apart = all_too
distinct_append (name ∷ names) others all all_too apart =
    distinct_more name (names ++ others)
    (λ has. ⊎_elim (distinct_first name names all) (apart name (inl refl)) (Has-append name names others has))
    (distinct_append names others (distinct_rest name names all) all_too (λ other in_one in_other. apart other (inr in_one) in_other))

-- a further name that is none of distinct names keeps them distinct
pub distinct_push : (names : List Word) (name : Word) → are_distinct names ≡ true → has_name names name ≡ false → are_distinct (names ++ name ∷ []) ≡ true
distinct_push names name all new =
    distinct_append names (name ∷ []) all refl
    (λ other has last. ⊎_elim (λ same. true≢false (sym (has_name-Has names name (subst (λ (w : Word). Has w names) (sym same) has)) ∙ new)) (λ none. none) last)

-- a name behind a front isn't found in it
pub fresh_behind : (before : List Word) (name : Word) (names : List Word) → are_distinct (before ++ name ∷ names) ≡ true → has_name before name ≡ false
fresh_behind before name names all = none_named before name (λ has. distinct_apart before (name ∷ names) all name has (inl refl))

-- ---- things that are all different

-- nothing stands twice
abbrev pub AreOnce : {A : Type 0} → List A → Type 0
AreOnce [] = Unit {0}
AreOnce (x ∷ xs) = (Has x xs → ⊥) × AreOnce xs

module _ {A : Type 0} where
  -- two lists of different things that have none in common
  pub once_append : (one other : List A) → AreOnce one → AreOnce other → ((x : A) → Has x one → Has x other → ⊥) → AreOnce (one ++ other)
  once_append [] other first second apart = second
  once_append (x ∷ one) other first second apart = (
    λ has. ⊎_elim first.0 (apart x (inl refl)) (Has-append x one other has),
    once_append one other first.1 second (λ y in_one in_other. apart y (inr in_one) in_other),
  )

module _ {A B : Type 0} where
  -- what each of different things gives, where no two give the same
  pub once_flat_map : (f : A → List B) (xs : List A) → AreOnce xs → ((x : A) → Has x xs → AreOnce (f x))
      → ((x y : A) → Has x xs → Has y xs → (z : B) → Has z (f x) → Has z (f y) → x ≡ y) → AreOnce (flat_map f xs)
  once_flat_map f [] once each apart = tt
  once_flat_map f (x ∷ xs) once each apart =
      once_append (f x) (flat_map f xs) (each x (inl refl))
      (once_flat_map f xs once.1 (λ y has. each y (inr has)) (λ y z has has_too. apart y z (inr has) (inr has_too)))
      (λ z here there.
      let from = from-flat_map f xs z there in
      once.0 (subst (λ (y : A). Has y xs) (sym (apart x from.0 (inl refl) (inr from.1) z here from.2)) from.1))

  -- different values of different things
  pub once_map : (f : A → B) (xs : List A) → AreOnce xs → ((x y : A) → Has x xs → Has y xs → f x ≡ f y → x ≡ y) → AreOnce (map f xs)
  once_map f [] once apart = tt
  once_map f (x ∷ xs) once apart = (
    λ has.
        let from = from-map f (f x) xs has in
        once.0 (subst (λ (y : A). Has y xs) (sym (apart x from.0 (inl refl) (inr from.1) (sym from.2))) from.1),
    once_map f xs once.1 (λ y z has has_too. apart y z (inr has) (inr has_too)),
  )

-- names of which none stands twice are distinct
pub once_distinct : (names : List Word) → AreOnce names → are_distinct names ≡ true
once_distinct [] once = refl
once_distinct (name ∷ names) once = distinct_more name names once.0 (once_distinct names once.1)

-- the names of different things are distinct, where no two of these have one name
pub distinct_map : {A : Type 0} (name : A → Word) (things : List A) → AreOnce things → ((x y : A) → Has x things → Has y things → name x ≡ name y → x ≡ y)
    → are_distinct (map name things) ≡ true
distinct_map name things once apart = once_distinct (map name things) (once_map name things once apart)

-- ---- numbers of a range

-- they lie in it
pub in_range : (from count number : ℕ) → Has number (range_with_len from count) → (from ≤ number) × (number < from + count)
in_range from zero number has = absurd has
in_range from (suc count) number has =
    ⊎_elim (λ same. (omega (arith, same), omega (arith, same)))
    (λ later. let rest = in_range (from + 1) count number later in (omega (arith, rest.0), omega (arith, rest.1))) has

-- and are all different
pub once_range : (from count : ℕ) → AreOnce (range_with_len from count)
once_range from zero = tt
once_range from (suc count) = (λ has. let inside = in_range (from + 1) count from has in omega (arith, inside.0), once_range (from + 1) count)
