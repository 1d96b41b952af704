-- Lists that are gathered from numbers and from numbered elements: what they are, and which elements they have.
use Rattle.std.proofs.Common.{◌≡◌, ◌<◌, ◌≤◌, ◌+◌, ◌||◌, ◌⊎◌, inl, inr, ℕ, zero, suc, Bool, true, false, cond, List, [], ◌∷◌, ◌++◌, length, map, get_or, slice_get, Some, None, ap, ap₂, refl, sym, subst, ◌∙◌, ⊎_elim, append-nil, append_assoc, true≢false, arith}
use Rattle.std.specs.Prelude.{sum_by}
use Rattle.std.specs.List.{AllPairs, find, flat_map, list_any, range_with_len}
use Rattle.std.proofs.lemmas.Bool.{cases_eq, cases_lt, or_cases, or_left, or_right}
use Rattle.std.proofs.lemmas.Grind.{flat_map-append}
use Rattle.std.proofs.lemmas.List.{map-append}
use Rattle.std.proofs.lemmas.List.Sums.{sum_by-append}
use Rattle.std.proofs.lemmas.Option.{get_or_from_slice_get, none-some, same_Some, slice_get_within}
use Rattle.vw_net.specs.Gathered.{gather, listed}
use Rattle.vw_net.proofs.SumsOverLists.{range_end}

-- ---- what numbers give

module _ {X : Type 0} where
  -- the same, number by number
  pub gather_agree : (one other : ℕ → List X) (count : ℕ) → ((number : ℕ) → number < count → one number ≡ other number) → gather one count ≡ gather other count
  gather_agree one other zero agree = refl
  gather_agree one other (suc count) agree =
      ap₂ (λ (front back : List X). front ++ back) (gather_agree one other count (λ number below. agree number (omega arith))) (agree count (omega arith))

  -- nothing
  pub gather_none : (each : ℕ → List X) (count : ℕ) → ((number : ℕ) → number < count → each number ≡ []) → gather each count ≡ []
  gather_none each zero none = refl
  gather_none each (suc count) none =
      ap₂ (λ (front back : List X). front ++ back) (gather_none each count (λ number below. none number (omega arith))) (none count (omega arith))

  -- what one number gives, where no other gives anything
  pub gather_one : (each : ℕ → List X) (count one : ℕ) → one < count → ((number : ℕ) → number < count → ¬ (number ≡ one) → each number ≡ []) → gather each count ≡ each one
  gather_one each zero one within none = absurd (omega arith)
  gather_one each (suc count) one within none =
      let if_last = λ (is : one ≡ count).
      let front = gather_none each count (λ number below. none number (omega arith) (λ same. omega arith)) in
      let whole : gather each (suc count) ≡ each one = ap (λ (first : List X). first ++ each count) front ∙ ap each (sym is) in whole in
      let if_before = λ (other : ¬ (one ≡ count)).
      let front = gather_one each count one (omega (arith, other)) (λ number below apart. none number (omega arith) apart) in
      let back = none count (omega arith) (λ same. other (sym same)) in
      let whole : gather each (suc count) ≡ each one = ap₂ (λ (first last : List X). first ++ last) front back ∙ append-nil (each one) in whole in
      ⊎_elim if_last if_before (cases_eq one count)

  -- numbers, and further numbers
  pub gather_add : (each : ℕ → List X) (count more : ℕ) → gather each (count + more) ≡ gather each count ++ gather (λ number. each (count + number)) more
  gather_add each count zero = let none : count + 0 ≡ count = omega arith in ap (gather each) none ∙ sym (append-nil (gather each count))
  gather_add each count (suc more) =
      let one : count + suc more ≡ suc (count + more) = omega arith in
      ap (gather each) one ∙ ap (λ (front : List X). front ++ each (count + more)) (gather_add each count more)
      ∙ append_assoc (gather each count) (gather (λ number. each (count + number)) more) (each (count + more))

  -- they are the numbers of a range
  pub gather_range : (each : ℕ → List X) (count : ℕ) → gather each count ≡ flat_map each (range_with_len 0 count)
  gather_range each zero = refl
  gather_range each (suc count) =
      let one : suc count ≡ count + 1 = omega arith in
      let number : 0 + count ≡ count = omega arith in
      let range : range_with_len 0 (suc count) ≡ range_with_len 0 count ++ count ∷ [] = ap (range_with_len 0) one ∙ range_end 0 count ∙ ap (λ (last : ℕ). range_with_len 0 count ++ last ∷ []) number in
      ap₂ (λ (front back : List X). front ++ back) (gather_range each count) (sym (append-nil (each count)))
      ∙ sym (flat_map-append each (range_with_len 0 count) (count ∷ [])) ∙ ap (flat_map each) (sym range)

  -- a sum over it
  pub sum_gather : (f : X → ℕ) (each : ℕ → List X) (count : ℕ) → sum_by f (gather each (suc count)) ≡ sum_by f (gather each count) + sum_by f (each count)
  sum_gather f each count = sum_by-append f (gather each count) (each count)

module _ {X Y : Type 0} where
  -- mapped, each number gives what is mapped
  pub map_gather : (f : X → Y) (each : ℕ → List X) (count : ℕ) → map f (gather each count) ≡ gather (λ number. map f (each number)) count
  map_gather f each zero = refl
  map_gather f each (suc count) = map-append f (gather each count) (each count) ∙ ap (λ (front : List Y). front ++ map f (each count)) (map_gather f each count)

  -- the same of what each element gives
  pub flat_map_gather : (f : X → List Y) (each : ℕ → List X) (count : ℕ) → flat_map f (gather each count) ≡ gather (λ number. flat_map f (each number)) count
  flat_map_gather f each zero = refl
  flat_map_gather f each (suc count) = flat_map-append f (gather each count) (each count) ∙ ap (λ (front : List Y). front ++ flat_map f (each count)) (flat_map_gather f each count)

-- ---- what numbered elements give

module _ {A X : Type 0} where
  -- the same, element by element
  pub listed_agree : (one other : ℕ → A → List X) → ((number : ℕ) (x : A) → one number x ≡ other number x) → (number : ℕ) (xs : List A) → listed one number xs ≡ listed other number xs
  listed_agree one other agree number [] = refl
  listed_agree one other agree number (x ∷ xs) = ap₂ (λ (front back : List X). front ++ back) (agree number x) (listed_agree one other agree (suc number) xs)

  -- elements, and further elements
  pub listed_append : (each : ℕ → A → List X) (number : ℕ) (xs more : List A) → listed each number (xs ++ more) ≡ listed each number xs ++ listed each (number + length xs) more
  listed_append each number [] more = let none : number ≡ number + 0 = omega arith in ap (λ (from : ℕ). listed each from more) none
  listed_append each number (x ∷ xs) more =
      let one : suc number + length xs ≡ number + suc (length xs) = omega arith in
      ap (λ (rest : List X). each number x ++ rest) (listed_append each (suc number) xs more ∙ ap (λ (from : ℕ). listed each (suc number) xs ++ listed each from more) one)
      ∙ sym (append_assoc (each number x) (listed each (suc number) xs) (listed each (number + suc (length xs)) more))

  -- where numbers don't matter
  pub listed_plain : (each : A → List X) (number : ℕ) (xs : List A) → listed (λ k x. each x) number xs ≡ flat_map each xs
  listed_plain each number [] = refl
  listed_plain each number (x ∷ xs) = ap (λ (rest : List X). each x ++ rest) (listed_plain each (suc number) xs)

  -- with other numbers
  pub listed_shift : (each : ℕ → A → List X) (more number : ℕ) (xs : List A) → listed each (more + number) xs ≡ listed (λ k x. each (more + k) x) number xs
  listed_shift each more number [] = refl
  listed_shift each more number (x ∷ xs) =
      let one : suc (more + number) ≡ more + suc number = omega arith in
      ap (λ (rest : List X). each (more + number) x ++ rest) (ap (λ (from : ℕ). listed each from xs) one ∙ listed_shift each more (suc number) xs)

module _ {A B X : Type 0} where
  -- of the values of a list
  pub listed_map : (each : ℕ → B → List X) (f : A → B) (number : ℕ) (xs : List A) → listed each number (map f xs) ≡ listed (λ k x. each k (f x)) number xs
  listed_map each f number [] = refl
  listed_map each f number (x ∷ xs) = ap (λ (rest : List X). each number (f x) ++ rest) (listed_map each f (suc number) xs)

module _ {A X Y : Type 0} where
  -- mapped, each element gives what is mapped
  pub map_listed : (f : X → Y) (each : ℕ → A → List X) (number : ℕ) (xs : List A) → map f (listed each number xs) ≡ listed (λ k x. map f (each k x)) number xs
  map_listed f each number [] = refl
  map_listed f each number (x ∷ xs) = map-append f (each number x) (listed each (suc number) xs) ∙ ap (λ (rest : List Y). map f (each number x) ++ rest) (map_listed f each (suc number) xs)

  -- the same of what each of these gives
  pub flat_map_listed : (f : X → List Y) (each : ℕ → A → List X) (number : ℕ) (xs : List A) → flat_map f (listed each number xs) ≡ listed (λ k x. flat_map f (each k x)) number xs
  flat_map_listed f each number [] = refl
  flat_map_listed f each number (x ∷ xs) = flat_map-append f (each number x) (listed each (suc number) xs) ∙ ap (λ (rest : List Y). flat_map f (each number x) ++ rest) (flat_map_listed f each (suc number) xs)

-- ---- which elements they have

-- an element stands somewhere in a list
abbrev pub StandsIn : {X : Type 0} → X → List X → Type 0
StandsIn x xs = (place : ℕ) × (slice_get xs place ≡ Some x)

module _ {X : Type 0} where
  -- at the same place in a longer list
  pub left_at : (x : X) (xs ys : List X) (place : ℕ) → slice_get xs place ≡ Some x → slice_get (xs ++ ys) place ≡ Some x
  left_at x [] ys place at = absurd (none-some x at)
  left_at x (y ∷ xs) ys zero at = at
  left_at x (y ∷ xs) ys (suc place) at = left_at x xs ys place at

  -- behind another list, that much later
  pub right_at : (x : X) (xs ys : List X) (place : ℕ) → slice_get ys place ≡ Some x → slice_get (xs ++ ys) (length xs + place) ≡ Some x
  right_at x [] ys place at = let none : 0 + place ≡ place = omega arith in ap (slice_get ys) none ∙ at
  right_at x (y ∷ xs) ys place at =
      let one : suc (length xs) + place ≡ suc (length xs + place) = omega arith in
      ap (slice_get (y ∷ (xs ++ ys))) one ∙ right_at x xs ys place at

  -- at each place of a list an element stands
  pub stands_below : (xs : List X) (place : ℕ) → place < length xs → (x : X) × (slice_get xs place ≡ Some x)
  stands_below [] place within = absurd (omega arith)
  stands_below (x ∷ xs) zero within = (x, refl)
  stands_below (x ∷ xs) (suc place) within = stands_below xs place (omega arith)

  -- so it stands in the longer list, too
  pub stands_left : (x : X) (xs ys : List X) → StandsIn x xs → StandsIn x (xs ++ ys)
  stands_left x xs ys stands = (stands.0, left_at x xs ys stands.0 stands.1)

  -- and behind another list
  pub stands_right : (x : X) (xs ys : List X) → StandsIn x ys → StandsIn x (xs ++ ys)
  stands_right x [] ys stands = stands
  stands_right x (y ∷ xs) ys stands = let rest = stands_right x xs ys stands in (suc rest.0, rest.1)

  later : (x y : X) (xs ys : List X) → StandsIn x xs ⊎ StandsIn x ys → StandsIn x (y ∷ xs) ⊎ StandsIn x ys
  later x y xs ys (inl left) = inl (suc left.0, left.1)
  later x y xs ys (inr right) = inr right

  append_at : (x : X) (xs ys : List X) (place : ℕ) → slice_get (xs ++ ys) place ≡ Some x → StandsIn x xs ⊎ StandsIn x ys
  append_at x [] ys place at = inr (place, at)
  append_at x (y ∷ xs) ys zero at = inl (0, at)
  append_at x (y ∷ xs) ys (suc place) at = later x y xs ys (append_at x xs ys place at)

  -- what stands in two lists behind each other stands in one of them
  pub from_append : (x : X) (xs ys : List X) → StandsIn x (xs ++ ys) → StandsIn x xs ⊎ StandsIn x ys
  from_append x xs ys stands = append_at x xs ys stands.0 stands.1

  -- in a list that is there by a test
  pub has_when : (test : Bool) (x : X) (xs : List X) → test ≡ true → StandsIn x xs → StandsIn x (cond test xs [])
  has_when true x xs is stands = stands
  has_when false x xs is stands = absurd (true≢false (sym is))

  -- and then the test gives true
  pub from_when : (test : Bool) (x : X) (xs : List X) → StandsIn x (cond test xs []) → (test ≡ true) × StandsIn x xs
  from_when true x xs stands = (refl, stands)
  from_when false x xs stands = absurd (none-some x stands.1)

  -- in what a number gives
  pub has_gather : (x : X) (each : ℕ → List X) (count number : ℕ) → number < count → StandsIn x (each number) → StandsIn x (gather each count)
  has_gather x each zero number below stands = absurd (omega arith)
  has_gather x each (suc count) number below stands =
      let if_before = λ (before : number < count). stands_left x (gather each count) (each count) (has_gather x each count number before stands) in
      let if_last = λ (last : count ≤ number).
      let same : number ≡ count = omega arith in
      stands_right x (gather each count) (each count) (stands.0, ap (λ (one : ℕ). slice_get (each one) stands.0) (sym same) ∙ stands.1) in
      ⊎_elim if_before if_last (cases_lt number count)

  -- and a number that gives it
  pub record GivenBy (x : X) (each : ℕ → List X) (count : ℕ) : Type 0 where
    pub number : ℕ
    pub below : number < count
    pub stands : StandsIn x (each number)

  -- there is such a number
  pub from_gather : (x : X) (each : ℕ → List X) (count : ℕ) → StandsIn x (gather each count) → GivenBy x each count
  from_gather x each zero stands = absurd (none-some x stands.1)
  from_gather x each (suc count) stands =
      let if_front = λ (front : StandsIn x (gather each count)).
      let given = from_gather x each count front in
      let whole : GivenBy x each (suc count) = record { number = given.number; below = omega (arith, given.below); stands = given.stands } in whole in
      let if_back = λ (back : StandsIn x (each count)).
      let whole : GivenBy x each (suc count) = record { number = count; below = omega arith; stands = back } in whole in
      ⊎_elim if_front if_back (from_append x (gather each count) (each count) stands)

module _ {A X : Type 0} where
  -- in what an element gives
  pub has_listed : (y : X) (each : ℕ → A → List X) (number : ℕ) (xs : List A) (place : ℕ) (x : A) → slice_get xs place ≡ Some x → StandsIn y (each (number + place) x) → StandsIn y (listed each number xs)
  has_listed y each number [] place x at stands = absurd (none-some x at)
  has_listed y each number (first ∷ xs) zero x at stands =
      let same : x ≡ first = sym (same_Some first x at) in
      let none : number + 0 ≡ number = omega arith in
      stands_left y (each number first) (listed each (suc number) xs) (stands.0, ap₂ (λ (k : ℕ) (one : A). slice_get (each k one) stands.0) (sym none) (sym same) ∙ stands.1)
  has_listed y each number (first ∷ xs) (suc place) x at stands =
      let one : suc number + place ≡ number + suc place = omega arith in
      stands_right y (each number first) (listed each (suc number) xs) (has_listed y each (suc number) xs place x at (stands.0, ap (λ (k : ℕ). slice_get (each k x) stands.0) one ∙ stands.1))

  -- and an element that gives it
  pub record ListedBy (y : X) (each : ℕ → A → List X) (number : ℕ) (xs : List A) : Type 0 where
    pub place : ℕ
    pub item : A
    pub at : slice_get xs place ≡ Some item
    pub stands : StandsIn y (each (number + place) item)

  -- there is such an element
  pub from_listed : (y : X) (each : ℕ → A → List X) (number : ℕ) (xs : List A) → StandsIn y (listed each number xs) → ListedBy y each number xs
  from_listed y each number [] stands = absurd (none-some y stands.1)
  from_listed y each number (first ∷ xs) stands =
      let if_here = λ (here : StandsIn y (each number first)).
      let none : number ≡ number + 0 = omega arith in
      let whole : ListedBy y each number (first ∷ xs) = record { place = 0; item = first; at = refl; stands = (here.0, ap (λ (k : ℕ). slice_get (each k first) here.0) (sym none) ∙ here.1) } in whole in
      let if_later = λ (behind : StandsIn y (listed each (suc number) xs)).
      let by = from_listed y each (suc number) xs behind in
      let one : number + suc by.place ≡ suc number + by.place = omega arith in
      let whole : ListedBy y each number (first ∷ xs) = record { place = suc by.place; item = by.item; at = by.at; stands = (by.stands.0, ap (λ (k : ℕ). slice_get (each k by.item) by.stands.0) one ∙ by.stands.1) } in whole in
      ⊎_elim if_here if_later (from_append y (each number first) (listed each (suc number) xs) stands)

  -- the same of lists without numbers
  pub has_flat_map : (y : X) (each : A → List X) (xs : List A) (x : A) → StandsIn x xs → StandsIn y (each x) → StandsIn y (flat_map each xs)
  has_flat_map y each xs x at stands =
      let whole = has_listed y (λ k one. each one) 0 xs at.0 x at.1 stands in
      (whole.0, ap (λ (all : List X). slice_get all whole.0) (sym (listed_plain each 0 xs)) ∙ whole.1)

  -- and an element that gives it
  pub from_flat_map : (y : X) (each : A → List X) (xs : List A) → StandsIn y (flat_map each xs) → (x : A) × StandsIn x xs × StandsIn y (each x)
  from_flat_map y each xs stands =
      let by = from_listed y (λ k one. each one) 0 xs (stands.0, ap (λ (all : List X). slice_get all stands.0) (listed_plain each 0 xs) ∙ stands.1) in
      (by.item, (by.place, by.at), by.stands)

-- ---- which elements pass a test

module _ {X : Type 0} where
  -- there is one
  pub from_any : (test : X → Bool) (xs : List X) → list_any test xs ≡ true → (x : X) × StandsIn x xs × (test x ≡ true)
  from_any test [] any = absurd (true≢false (sym any))
  from_any test (x ∷ xs) any =
      ⊎_elim (λ here. (x, (0, refl), here)) (λ later. let rest = from_any test xs later in (rest.0, (suc rest.1.0, rest.1.1), rest.2)) (or_cases (test x) (list_any test xs) any)

  -- one that stands there is enough
  pub any_stands : (test : X → Bool) (x : X) (xs : List X) → StandsIn x xs → test x ≡ true → list_any test xs ≡ true
  any_stands test x xs stands passes = any_at test x xs stands.0 stands.1 passes where
    any_at : (p : X → Bool) (one : X) (ys : List X) (place : ℕ) → slice_get ys place ≡ Some one → p one ≡ true → list_any p ys ≡ true
    any_at p one [] place at is = absurd (none-some one at)
    any_at p one (y ∷ ys) zero at is = or_left (p y) (list_any p ys) (ap p (same_Some y one at) ∙ is)
    any_at p one (y ∷ ys) (suc place) at is = or_right (p y) (list_any p ys) (any_at p one ys place at is)

module _ {X : Type 0} where
  -- the first one that passes
  pub find_stands : (test : X → Bool) (x : X) (xs : List X) → find test xs ≡ Some x → StandsIn x xs × (test x ≡ true)
  find_stands test x [] is = absurd (none-some x is)
  find_stands test x (y ∷ ys) is = by (test y) refl is (find_stands test x ys) where
    by : (passes : Bool) → test y ≡ passes → cond passes (Some y) (find test ys) ≡ Some x → (find test ys ≡ Some x → StandsIn x ys × (test x ≡ true)) → StandsIn x (y ∷ ys) × (test x ≡ true)
    by true passes found rest = let same : y ≡ x = same_Some y x found in ((0, found), ap test (sym same) ∙ passes)
    by false passes found rest = let behind = rest found in ((suc behind.0.0, behind.0.1), behind.1)

  -- or none does
  pub find_none : (test : X → Bool) (xs : List X) → find test xs ≡ None → list_any test xs ≡ false
  find_none test [] is = refl
  find_none test (y ∷ ys) is = by (test y) is (find_none test ys) where
    by : (passes : Bool) → cond passes (Some y) (find test ys) ≡ None → (find test ys ≡ None → list_any test ys ≡ false) → (passes || list_any test ys) ≡ false
    by true found rest = absurd (none-some y (sym found))
    by false found rest = rest found

-- ---- places in lists of lists

module _ {A X : Type 0} (each : A → List X) where
  -- how many elements the lists before a number have
  abbrev pub places_before : List A → ℕ → ℕ
  places_before [] number = 0
  places_before (x ∷ xs) zero = 0
  places_before (x ∷ xs) (suc number) = length (each x) + places_before xs number

  -- where an element of one of the lists stands
  pub flat_at : (xs : List A) (number place : ℕ) (x : A) (y : X) → slice_get xs number ≡ Some x → slice_get (each x) place ≡ Some y → slice_get (flat_map each xs) (places_before xs number + place) ≡ Some y
  flat_at [] number place x y at is = absurd (none-some x at)
  flat_at (first ∷ xs) zero place x y at is =
      let same : x ≡ first = sym (same_Some first x at) in
      let none : 0 + place ≡ place = omega arith in
      ap (slice_get (each first ++ flat_map each xs)) none ∙ left_at y (each first) (flat_map each xs) place (ap (λ (one : A). slice_get (each one) place) (sym same) ∙ is)
  flat_at (first ∷ xs) (suc number) place x y at is =
      let behind : length (each first) + places_before xs number + place ≡ length (each first) + (places_before xs number + place) = omega arith in
      ap (slice_get (each first ++ flat_map each xs)) behind ∙ right_at y (each first) (flat_map each xs) (places_before xs number + place) (flat_at xs number place x y at is)

  -- a list has its elements before those of the next one
  pub places_after : (xs : List A) (number other : ℕ) (x : A) → slice_get xs number ≡ Some x → number < other → places_before xs number + length (each x) ≤ places_before xs other
  places_after [] number other x at before = absurd (none-some x at)
  places_after (first ∷ xs) number zero x at before = absurd (omega arith)
  places_after (first ∷ xs) zero (suc other) x at before = let same : length (each first) ≡ length (each x) = ap (λ (one : A). length (each one)) (same_Some first x at) in omega (arith, same)
  places_after (first ∷ xs) (suc number) (suc other) x at before = omega (arith, places_after xs number other x at (omega arith))

  -- a fact on each two elements, of an element and a later one
  pub flat_pairs : (P : X → X → Type 0) (xs : List A) → AllPairs P (flat_map each xs) → (number place other further : ℕ) (one two : A) (x y : X)
      → slice_get xs number ≡ Some one → slice_get (each one) place ≡ Some x → slice_get xs other ≡ Some two → slice_get (each two) further ≡ Some y
      → (number < other) ⊎ ((number ≡ other) × (place < further)) → P x y
  flat_pairs P xs all number place other further one two x y at is there its before =
      let first = flat_at xs number place one x at is in
      let second = flat_at xs other further two y there its in
      let inside = slice_get_within (each one) place x is in
      let long = slice_get_within (flat_map each xs) (places_before xs other + further) y second in
      let if_list = λ (less : number < other). let whole : places_before xs number + place < places_before xs other + further = omega (arith, places_after xs number other one at less, inside) in whole in
      let if_place = λ (same : (number ≡ other) × (place < further)). let whole : places_before xs number + place < places_before xs other + further = omega (arith, ap (places_before xs) same.0, same.1) in whole in
      let fact = all (places_before xs number + place) (places_before xs other + further) x (⊎_elim if_list if_place before) long in
      subst (P x) (get_or_from_slice_get (flat_map each xs) (places_before xs other + further) y x second)
      (subst (λ (z : X). P z (get_or (flat_map each xs) (places_before xs other + further) x)) (get_or_from_slice_get (flat_map each xs) (places_before xs number + place) x x first) fact)
