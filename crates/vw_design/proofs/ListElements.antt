-- What elements a list has, where it is made from others.
use Rattle.std.proofs.Common.{◌≡◌, ◌<◌, ℕ, zero, suc, Bool, true, false, cond, List, [], ◌∷◌, ◌++◌, length, map, get_or, Option, Some, None, slice_get, ◌⊎◌, inl, inr, ⊎_elim, refl, sym, ◌∙◌, ap, subst, true≢false, filter, find, flat_map, filter_map, option_map, Contains, arith}
use Rattle.std.specs.List.{cons_option, list_any, list_all}
use Rattle.std.specs.Option.{option_or}
use Rattle.std.proofs.lemmas.Bool.{or_cases, or_left, or_right, and_parts, and_from}
use Rattle.std.proofs.lemmas.Option.{same_Some, none-some}
use Rattle.vw_net.specs.FirstFound.{first_found, first_place}
use Rattle.vw_net.proofs.FirstOptions.{or_none}

-- x is an element of a list
abbrev pub Has : {A : Type 0} → A → List A → Type 0
Has x [] = ⊥
Has x (y ∷ ys) = (y ≡ x) ⊎ Has x ys

module _ {A : Type 0} where
  pub Has-left : (x : A) (xs ys : List A) → Has x xs → Has x (xs ++ ys)
  Has-left x [] ys has = absurd has
  Has-left x (y ∷ xs) ys has = ⊎_elim (λ same. inl same) (λ later. inr (Has-left x xs ys later)) has

  pub Has-right : (x : A) (xs ys : List A) → Has x ys → Has x (xs ++ ys)
  Has-right x [] ys has = has
  Has-right x (y ∷ xs) ys has = inr (Has-right x xs ys has)

  pub Has-append : (x : A) (xs ys : List A) → Has x (xs ++ ys) → Has x xs ⊎ Has x ys
  Has-append x [] ys has = inr has
  Has-append x (y ∷ xs) ys has = ⊎_elim (λ same. inl (inl same)) (λ later. ⊎_elim (λ left. inl (inr left)) (λ right. inr right) (Has-append x xs ys later)) has

  -- by its place, and the place of an element
  pub Has-at : (x : A) (xs : List A) (place : ℕ) → slice_get xs place ≡ Some x → Has x xs
  Has-at x [] place at = absurd (none-some x at)
  Has-at x (y ∷ ys) zero at = inl (same_Some y x at)
  Has-at x (y ∷ ys) (suc place) at = inr (Has-at x ys place at)

  pub at-Has : (x : A) (xs : List A) → Has x xs → (place : ℕ) × (slice_get xs place ≡ Some x)
  at-Has x [] has = absurd has
  at-Has x (y ∷ ys) has =
      ⊎_elim (λ same. (0, ap (λ (z : A). Some z) same)) (λ later. let rest = at-Has x ys later in (suc rest.0, rest.1)) has

  -- a filter
  filter_step : (p : A → Bool) (x y : A) (ys : List A) (b : Bool) → p y ≡ b → (Has x (filter p ys) → Has x ys × (p x ≡ true))
      → Has x (cond b (y ∷ filter p ys) (filter p ys)) → Has x (y ∷ ys) × (p x ≡ true)
  filter_step p x y ys true passes rest has = ⊎_elim (λ same. (inl same, ap p (sym same) ∙ passes)) (λ later. (inr (rest later).0, (rest later).1)) has
  filter_step p x y ys false passes rest has = (inr (rest has).0, (rest has).1)

  pub from-filter : (p : A → Bool) (x : A) (xs : List A) → Has x (filter p xs) → Has x xs × (p x ≡ true)
  from-filter p x [] has = absurd has
  from-filter p x (y ∷ ys) has = filter_step p x y ys (p y) refl (from-filter p x ys) has

  filter_keep : (p : A → Bool) (x y : A) (ys : List A) (b : Bool) → p y ≡ b → p x ≡ true → (Has x ys → Has x (filter p ys)) → Has x (y ∷ ys)
      → Has x (cond b (y ∷ filter p ys) (filter p ys))
  filter_keep p x y ys true is passes rest has = ⊎_elim (λ same. inl same) (λ later. inr (rest later)) has
  filter_keep p x y ys false is passes rest has = ⊎_elim (λ same. absurd (true≢false (sym passes ∙ ap p (sym same) ∙ is))) (λ later. rest later) has

  pub Has-filter : (p : A → Bool) (x : A) (xs : List A) → Has x xs → p x ≡ true → Has x (filter p xs)
  Has-filter p x [] has passes = absurd has
  Has-filter p x (y ∷ ys) has passes = filter_keep p x y ys (p y) refl passes (λ later. Has-filter p x ys later passes) has

  -- the first element that passes a test
  find_step : (p : A → Bool) (x y : A) (ys : List A) (b : Bool) → p y ≡ b → (find p ys ≡ Some x → Has x ys × (p x ≡ true))
      → cond b (Some y) (find p ys) ≡ Some x → Has x (y ∷ ys) × (p x ≡ true)
  find_step p x y ys true passes rest found = (inl (same_Some y x found), ap p (sym (same_Some y x found)) ∙ passes)
  find_step p x y ys false passes rest found = (inr (rest found).0, (rest found).1)

  pub from-find : (p : A → Bool) (x : A) (xs : List A) → find p xs ≡ Some x → Has x xs × (p x ≡ true)
  from-find p x [] found = absurd (none-some x found)
  from-find p x (y ∷ ys) found = find_step p x y ys (p y) refl (from-find p x ys) found

  find_none : (p : A → Bool) (x y : A) (ys : List A) (b : Bool) → p y ≡ b → (find p ys ≡ None → Has x ys → p x ≡ false)
      → cond b (Some y) (find p ys) ≡ None → Has x (y ∷ ys) → p x ≡ false
  find_none p x y ys true passes rest found has = absurd (none-some y (sym found))
  find_none p x y ys false passes rest found has = ⊎_elim (λ same. ap p (sym same) ∙ passes) (λ later. rest found later) has

  pub none-find : (p : A → Bool) (x : A) (xs : List A) → find p xs ≡ None → Has x xs → p x ≡ false
  none-find p x [] found has = absurd has
  none-find p x (y ∷ ys) found has = find_none p x y ys (p y) refl (none-find p x ys) found has

  find_some : (p : A → Bool) (x y : A) (ys : List A) (b : Bool) → p y ≡ b → p x ≡ true → (Has x ys → (z : A) × (find p ys ≡ Some z)) → Has x (y ∷ ys)
      → (z : A) × (cond b (Some y) (find p ys) ≡ Some z)
  find_some p x y ys true is passes rest has = (y, refl)
  find_some p x y ys false is passes rest has = ⊎_elim (λ same. absurd (true≢false (sym passes ∙ ap p (sym same) ∙ is))) (λ later. rest later) has

  pub some-find : (p : A → Bool) (x : A) (xs : List A) → Has x xs → p x ≡ true → (z : A) × (find p xs ≡ Some z)
  some-find p x [] has passes = absurd has
  some-find p x (y ∷ ys) has passes = find_some p x y ys (p y) refl passes (λ later. some-find p x ys later passes) has

  -- whether some element passes a test
  pub any-Has : (p : A → Bool) (x : A) (xs : List A) → Has x xs → p x ≡ true → list_any p xs ≡ true
  any-Has p x [] has passes = absurd has
  any-Has p x (y ∷ ys) has passes = ⊎_elim (λ same. or_left (p y) (list_any p ys) (ap p same ∙ passes)) (λ later. or_right (p y) (list_any p ys) (any-Has p x ys later passes)) has

  pub from-any : (p : A → Bool) (xs : List A) → list_any p xs ≡ true → (x : A) × Has x xs × (p x ≡ true)
  from-any p [] any = absurd (true≢false (sym any))
  from-any p (y ∷ ys) any =
      ⊎_elim (λ here. (y, inl refl, here)) (λ there. let rest = from-any p ys there in (rest.0, inr rest.1, rest.2)) (or_cases (p y) (list_any p ys) any)

  pub all-Has : (test : A → Bool) (x : A) (xs : List A) → list_all test xs ≡ true → Has x xs → test x ≡ true
  all-Has test x [] all has = absurd has
  all-Has test x (y ∷ ys) all has =
      let parts = and_parts (test y) (list_all test ys) all in
      ⊎_elim (λ same. ap test (sym same) ∙ parts.0) (λ later. all-Has test x ys parts.1 later) has

  -- the first place of an element that passes a test
  place_step : (p : A → Bool) (x y : A) (ys : List A) (b : Bool) → p y ≡ b → p x ≡ true
      → (Has x ys → (place : ℕ) × (first_place p ys ≡ Some place)) → Has x (y ∷ ys)
      → (place : ℕ) × (cond b (Some 0) (option_map (λ at. suc at) (first_place p ys)) ≡ Some place)
  place_step p x y ys true is passes rest has = (0, refl)
  place_step p x y ys false is passes rest has =
      ⊎_elim (λ same. absurd (true≢false (sym passes ∙ ap p (sym same) ∙ is))) (λ later. let found = rest later in (suc found.0, ap (option_map (λ at. suc at)) found.1)) has

  pub some-place : (p : A → Bool) (x : A) (xs : List A) → Has x xs → p x ≡ true → (place : ℕ) × (first_place p xs ≡ Some place)
  some-place p x [] has passes = absurd has
  some-place p x (y ∷ ys) has passes = place_step p x y ys (p y) refl passes (λ later. some-place p x ys later passes) has

  at_step : (p : A → Bool) (y : A) (ys : List A) (place : ℕ) (b : Bool) → p y ≡ b
      → ((before : ℕ) → first_place p ys ≡ Some before → (x : A) × (slice_get ys before ≡ Some x) × (p x ≡ true))
      → (rest : Option ℕ) → first_place p ys ≡ rest → cond b (Some 0) (option_map (λ at. suc at) rest) ≡ Some place
      → (x : A) × (slice_get (y ∷ ys) place ≡ Some x) × (p x ≡ true)
  at_step p y ys place true passes further rest is found = subst (λ (at : ℕ). (x : A) × (slice_get (y ∷ ys) at ≡ Some x) × (p x ≡ true)) (same_Some 0 place found) (y, refl, passes)
  at_step p y ys place false passes further None is found = absurd (none-some place found)
  at_step p y ys place false passes further (Some before) is found =
      subst (λ (at : ℕ). (x : A) × (slice_get (y ∷ ys) at ≡ Some x) × (p x ≡ true)) (same_Some (suc before) place found) (further before is)

  pub at-place : (p : A → Bool) (xs : List A) (place : ℕ) → first_place p xs ≡ Some place → (x : A) × (slice_get xs place ≡ Some x) × (p x ≡ true)
  at-place p [] place found = absurd (none-some place found)
  at-place p (y ∷ ys) place found = at_step p y ys place (p y) refl (at-place p ys) (first_place p ys) refl found

module _ {A B : Type 0} where
  pub Has-map : (f : A → B) (x : A) (xs : List A) → Has x xs → Has (f x) (map f xs)
  Has-map f x [] has = absurd has
  Has-map f x (y ∷ ys) has = ⊎_elim (λ same. inl (ap f same)) (λ later. inr (Has-map f x ys later)) has

  pub from-map : (f : A → B) (z : B) (xs : List A) → Has z (map f xs) → (x : A) × Has x xs × (f x ≡ z)
  from-map f z [] has = absurd has
  from-map f z (y ∷ ys) has = ⊎_elim (λ same. (y, inl refl, same)) (λ later. let rest = from-map f z ys later in (rest.0, inr rest.1, rest.2)) has

  pub Has-flat_map : (f : A → List B) (x : A) (xs : List A) (z : B) → Has x xs → Has z (f x) → Has z (flat_map f xs)
  Has-flat_map f x [] z has in_it = absurd has
  Has-flat_map f x (y ∷ ys) z has in_it =
      ⊎_elim (λ same. Has-left z (f y) (flat_map f ys) (subst (λ (w : A). Has z (f w)) (sym same) in_it)) (λ later. Has-right z (f y) (flat_map f ys) (Has-flat_map f x ys z later in_it)) has

  pub from-flat_map : (f : A → List B) (xs : List A) (z : B) → Has z (flat_map f xs) → (x : A) × Has x xs × Has z (f x)
  from-flat_map f [] z has = absurd has
  from-flat_map f (y ∷ ys) z has =
      ⊎_elim (λ here. (y, inl refl, here)) (λ later. let rest = from-flat_map f ys z later in (rest.0, inr rest.1, rest.2)) (Has-append z (f y) (flat_map f ys) has)

  option_step : (h : A → Option B) (z : B) (y : A) (ys : List A) (o : Option B) → h y ≡ o → (Has z (filter_map h ys) → (x : A) × Has x ys × (h x ≡ Some z))
      → Has z (cons_option o (filter_map h ys)) → (x : A) × Has x (y ∷ ys) × (h x ≡ Some z)
  option_step h z y ys None is rest has = let found = rest has in (found.0, inr found.1, found.2)
  option_step h z y ys (Some w) is rest has =
      ⊎_elim (λ same. (y, inl refl, is ∙ ap (λ (v : B). Some v) same)) (λ later. let found = rest later in (found.0, inr found.1, found.2)) has

  pub from-filter_map : (h : A → Option B) (z : B) (xs : List A) → Has z (filter_map h xs) → (x : A) × Has x xs × (h x ≡ Some z)
  from-filter_map h z [] has = absurd has
  from-filter_map h z (y ∷ ys) has = option_step h z y ys (h y) refl (from-filter_map h z ys) has

  option_keep : (h : A → Option B) (z : B) (x y : A) (ys : List A) (o : Option B) → h y ≡ o → h x ≡ Some z
      → (Has x ys → Has z (filter_map h ys)) → Has x (y ∷ ys)
      → Has z (cons_option o (filter_map h ys))
  option_keep h z x y ys None is gives rest has = ⊎_elim (λ same. absurd (none-some z (sym is ∙ ap h same ∙ gives))) (λ later. rest later) has
  option_keep h z x y ys (Some w) is gives rest has = ⊎_elim (λ same. inl (same_Some w z (sym is ∙ ap h same ∙ gives))) (λ later. inr (rest later)) has

  pub Has-filter_map : (h : A → Option B) (z : B) (x : A) (xs : List A) → Has x xs → h x ≡ Some z → Has z (filter_map h xs)
  Has-filter_map h z x [] has gives = absurd has
  Has-filter_map h z x (y ∷ ys) has gives = option_keep h z x y ys (h y) refl gives (λ later. Has-filter_map h z x ys later gives) has

  -- nothing is found anywhere
  found_step : (f : A → Option B) (z : B) (y : A) (ys : List A) (o : Option B) → f y ≡ o → (first_found f ys ≡ Some z → (x : A) × Has x ys × (f x ≡ Some z))
      → option_or o (first_found f ys) ≡ Some z → (x : A) × Has x (y ∷ ys) × (f x ≡ Some z)
  found_step f z y ys None is rest found = let further = rest found in (further.0, inr further.1, further.2)
  found_step f z y ys (Some w) is rest found = (y, inl refl, is ∙ found)

  pub from-found : (f : A → Option B) (z : B) (xs : List A) → first_found f xs ≡ Some z → (x : A) × Has x xs × (f x ≡ Some z)
  from-found f z [] found = absurd (none-some z found)
  from-found f z (y ∷ ys) found = found_step f z y ys (f y) refl (from-found f z ys) found

  pub none-found : (f : A → Option B) (x : A) (xs : List A) → first_found f xs ≡ None → Has x xs → f x ≡ None
  none-found f x [] none has = absurd has
  none-found f x (y ∷ ys) none has =
      let parts = or_none (f y) (first_found f ys) none in
      ⊎_elim (λ same. ap f (sym same) ∙ parts.0) (λ later. none-found f x ys parts.1 later) has

-- every element passes
pub all_pass : {A : Type 0} (test : A → Bool) (xs : List A) → ((x : A) → Has x xs → test x ≡ true) → list_all test xs ≡ true
all_pass test [] passes = refl
all_pass test (x ∷ xs) passes = and_from (test x) (list_all test xs) (passes x (inl refl)) (all_pass test xs (λ y has. passes y (inr has)))

-- in std's words
module _ {A : Type 0} where
  pub Contains-Has : (x : A) (xs : List A) → Has x xs → Contains xs x
  Contains-Has x [] has = absurd has
  Contains-Has x (y ∷ ys) has =
      ⊎_elim (λ same. (0, omega arith, same)) (λ later. let rest = Contains-Has x ys later in (suc rest.0, omega (arith, rest.1), rest.2)) has

  at-index : (x : A) (xs : List A) (k : ℕ) → k < length xs → get_or xs k x ≡ x → Has x xs
  at-index x [] k within is = absurd (omega arith)
  at-index x (y ∷ ys) zero within is = inl is
  at-index x (y ∷ ys) (suc k) within is = inr (at-index x ys k (omega arith) is)

  pub Has-Contains : (x : A) (xs : List A) → Contains xs x → Has x xs
  Has-Contains x xs has = at-index x xs has.0 has.1 has.2
