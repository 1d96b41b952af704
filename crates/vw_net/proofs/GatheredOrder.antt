-- A list in order by numbers is the list that is gathered by them: for each number, the elements that have it.
use Rattle.std.proofs.Common.{◌≡◌, ◌<◌, ◌≤◌, ◌==◌, ◌&&◌, ℕ, zero, suc, Bool, true, false, cond, List, [], ◌∷◌, ◌++◌, ap, ap₂, refl, sym, ◌∙◌, ⊎_elim, eqb-true, eq-eqb, ne_eqb, true≢false, arith}
use Rattle.std.specs.Cmp.{IsStrictWeakOrder}
use Rattle.std.specs.List.{AllByRecursion, filter}
use Rattle.std.proofs.lemmas.Bool.{cases_lt}
use Rattle.vw_net.specs.Gathered.{gather}
use Rattle.vw_net.specs.Sorting.{put, sorted}
use Rattle.vw_net.proofs.ListedLists.{gather_agree, gather_none}
use Rattle.vw_net.proofs.SortedLists.{Rises, all_filter, all_sorted, filter_sorted, put_front, rises_filter, sorted_rises}

-- ---- filters

module _ {X : Type 0} where
  -- elements of which none passes
  pub filter_none : (test : X → Bool) (xs : List X) → AllByRecursion (λ x. test x ≡ false) xs → filter test xs ≡ []
  filter_none test [] none = refl
  filter_none test (x ∷ xs) none = rw none.0 (filter_none test xs none.1)

  -- two tests, one after the other
  pub filter_twice : (one other : X → Bool) (xs : List X) → filter other (filter one xs) ≡ filter (λ x. one x && other x) xs
  filter_twice one other [] = refl
  filter_twice one other (x ∷ xs) = by (one x) (other x) (filter_twice one other xs) refl where
    by : (here there : Bool) → filter other (filter one xs) ≡ filter (λ y. one y && other y) xs
        → (there ≡ other x → filter other (cond here (x ∷ filter one xs) (filter one xs)) ≡ cond (here && there) (x ∷ filter (λ y. one y && other y) xs) (filter (λ y. one y && other y) xs))
    by true there rest is = ap (λ (test : Bool). cond test (x ∷ filter other (filter one xs)) (filter other (filter one xs))) (sym is) ∙ ap (λ (list : List X). cond there (x ∷ list) list) rest
    by false there rest is = rest

  -- a list that is in order is left as it is
  pub sorted_in_order : (before : X → X → Bool) (order : IsStrictWeakOrder before) (xs : List X) → Rises before xs → sorted before xs ≡ xs
  sorted_in_order before order [] rises = refl
  sorted_in_order before order (x ∷ xs) rises = ap (put before x) (sorted_in_order before order xs rises.1) ∙ put_front before order x xs rises.0

  -- ---- by one number

  module _ (key : X → ℕ) where
    -- whether an element has a number
    abbrev pub has_key : ℕ → X → Bool
    has_key number x = key x == number

    -- those that are kept have it
    pub keys_of : (number : ℕ) (xs : List X) → AllByRecursion (λ x. key x ≡ number) (filter (has_key number) xs)
    keys_of number [] = tt
    keys_of number (x ∷ xs) = step (has_key number x) refl (keys_of number xs) where
      step : (has : Bool) → has_key number x ≡ has → AllByRecursion (λ y. key y ≡ number) (filter (has_key number) xs) → AllByRecursion (λ y. key y ≡ number) (cond has (x ∷ filter (has_key number) xs) (filter (has_key number) xs))
      step true is all = (eqb-true (key x) number is, all)
      step false is all = all

    -- no element has a lower number than one before it
    abbrev pub RisesBy : List X → Type 0
    RisesBy [] = Unit {0}
    RisesBy (x ∷ xs) = AllByRecursion (λ y. key x ≤ key y) xs × RisesBy xs

    -- elements with higher numbers give nothing
    none_lower : (count low : ℕ) (xs : List X) → count ≤ low → AllByRecursion (λ y. low ≤ key y) xs → gather (λ number. filter (has_key number) xs) count ≡ []
    none_lower count low xs upto above = gather_none (λ number. filter (has_key number) xs) count (λ number below. filter_none (has_key number) xs (higher number below xs above)) where
      higher : (number : ℕ) → number < count → (ys : List X) → AllByRecursion (λ y. low ≤ key y) ys → AllByRecursion (λ y. has_key number y ≡ false) ys
      higher number below [] all = tt
      higher number below (y ∷ ys) all = (ne_eqb (key y) number (λ same. omega (arith, all.0)), higher number below ys all.1)

    -- an element with the lowest number comes first
    lowest_first : (count : ℕ) (x : X) (xs : List X) → key x < count → AllByRecursion (λ y. key x ≤ key y) xs → gather (λ number. filter (has_key number) (x ∷ xs)) count ≡ x ∷ gather (λ number. filter (has_key number) xs) count
    lowest_first zero x xs below above = absurd (omega arith)
    lowest_first (suc count) x xs below above =
        let each = λ (number : ℕ). filter (has_key number) xs in
        let more = λ (number : ℕ). filter (has_key number) (x ∷ xs) in
        let if_before = λ (before : key x < count).
        let last : more count ≡ each count = let apart : has_key count x ≡ false = ne_eqb (key x) count (λ same. omega arith) in ap (λ (test : Bool). cond test (x ∷ each count) (each count)) apart in
        let whole : gather more (suc count) ≡ x ∷ gather each (suc count) = ap₂ (λ (front back : List X). front ++ back) (lowest_first count x xs before above) last in whole in
        let if_last = λ (upto : count ≤ key x).
        let same : key x ≡ count = omega arith in
        let last : more count ≡ x ∷ each count = let is : has_key count x ≡ true = eq-eqb (key x) count same in ap (λ (test : Bool). cond test (x ∷ each count) (each count)) is in
        let whole : gather more (suc count) ≡ x ∷ gather each (suc count) =
        ap₂ (λ (front back : List X). front ++ back) (none_lower count (key x) (x ∷ xs) upto (omega arith, above)) last ∙ ap (λ (front : List X). x ∷ (front ++ each count)) (sym (none_lower count (key x) xs upto above)) in whole in
        ⊎_elim if_before if_last (cases_lt (key x) count)

    -- so a list that rises by a number is gathered by it
    pub rises_gathered : (count : ℕ) (xs : List X) → AllByRecursion (λ x. key x < count) xs → RisesBy xs → xs ≡ gather (λ number. filter (has_key number) xs) count
    rises_gathered count [] small rises = sym (gather_none (λ number. []) count (λ number below. refl))
    rises_gathered count (x ∷ xs) small rises =
        ap (λ (rest : List X). x ∷ rest) (rises_gathered count xs small.1 rises.1) ∙ sym (lowest_first count x xs small.0 rises.0)

    -- and it rises by a number where elements with a lower one come before others, among these elements
    pub rises_by : (before : X → X → Bool) (P : X → Type 0) → ((x y : X) → P x → P y → key x < key y → before x y ≡ true) → (xs : List X) → AllByRecursion P xs → Rises before xs → RisesBy xs
    rises_by before P lower [] all rises = tt
    rises_by before P lower (x ∷ xs) all rises = (each xs all.1 rises.0, rises_by before P lower xs all.1 rises.1) where
      each : (ys : List X) → AllByRecursion P ys → AllByRecursion (λ y. before y x ≡ false) ys → AllByRecursion (λ y. key x ≤ key y) ys
      each [] has none = tt
      each (y ∷ ys) has none = (⊎_elim (λ less. absurd (true≢false (sym (lower y x has.0 all.0 less) ∙ none.0))) (λ upto. upto) (cases_lt (key y) (key x)), each ys has.1 none.1)

-- ---- by three numbers, one after the other

module _ {X : Type 0} (first second third : X → ℕ) where
  -- the elements with three numbers
  abbrev pub with_keys : List X → ℕ → ℕ → ℕ → List X
  with_keys xs i j k = filter (has_key third k) (filter (has_key second j) (filter (has_key first i) xs))

  -- those of each first number, then of each second one, then of each third one
  abbrev pub gathered_by_keys : ℕ → ℕ → ℕ → List X → List X
  gathered_by_keys firsts seconds thirds xs = gather (λ i. gather (λ j. gather (with_keys xs i j) thirds) seconds) firsts

module _ {X : Type 0} (before : X → X → Bool) (order : IsStrictWeakOrder before) (first second third : X → ℕ)
    (by_first : (x y : X) → first x < first y → before x y ≡ true)
    (by_second : (x y : X) → first x ≡ first y → second x < second y → before x y ≡ true)
    (by_third : (x y : X) → first x ≡ first y → second x ≡ second y → third x < third y → before x y ≡ true) where
  -- a list whose elements with the same three numbers are in order already is gathered by these when it is put in order
  pub sorted_is_gathered : (firsts seconds thirds : ℕ) (xs : List X) → AllByRecursion (λ x. first x < firsts) xs → AllByRecursion (λ x. second x < seconds) xs → AllByRecursion (λ x. third x < thirds) xs
      → ((i j k : ℕ) → Rises before (with_keys first second third xs i j k)) → sorted before xs ≡ gathered_by_keys first second third firsts seconds thirds xs
  sorted_is_gathered firsts seconds thirds xs few_firsts few_seconds few_thirds ties = whole where
    all : List X
    all = sorted before xs

    of_first : ℕ → List X
    of_first i = filter (has_key first i) (sorted before xs)

    of_second : ℕ → ℕ → List X
    of_second i j = filter (has_key second j) (of_first i)

    first_rises : (i : ℕ) → Rises before (of_first i)
    first_rises i = rises_filter before order (has_key first i) (sorted before xs) (sorted_rises before order xs)

    second_rises : (i j : ℕ) → Rises before (of_second i j)
    second_rises i j = rises_filter before order (has_key second j) (of_first i) (first_rises i)

    -- one slot
    slot : (i j k : ℕ) → filter (has_key third k) (of_second i j) ≡ with_keys first second third xs i j k
    slot i j k =
        let one = filter_sorted before order (has_key first i) xs in
        let two = filter_sorted before order (has_key second j) (filter (has_key first i) xs) in
        let three = filter_sorted before order (has_key third k) (filter (has_key second j) (filter (has_key first i) xs)) in
        ap (λ (list : List X). filter (has_key third k) (filter (has_key second j) list)) one ∙ ap (filter (has_key third k)) two ∙ three
        ∙ sorted_in_order before order (with_keys first second third xs i j k) (ties i j k)

    -- those of two numbers, and of one
    seconds_are : (i j : ℕ) → of_second i j ≡ gather (with_keys first second third xs i j) thirds
    seconds_are i j =
        let same = both i j in
        let small = all_filter before (λ x. third x < thirds) (has_key second j) (of_first i) (all_filter before (λ x. third x < thirds) (has_key first i) (sorted before xs) (all_sorted before (λ x. third x < thirds) xs few_thirds)) in
        let rises = rises_by third before (λ x. (first x ≡ i) × (second x ≡ j)) (λ x y one other less. by_third x y (one.0 ∙ sym other.0) (one.1 ∙ sym other.1) less) (of_second i j) same (second_rises i j) in
        rises_gathered third thirds (of_second i j) small rises ∙ gather_agree (λ k. filter (has_key third k) (of_second i j)) (with_keys first second third xs i j) thirds (λ k below. slot i j k) where
          join : (P Q : X → Type 0) (ys : List X) → AllByRecursion P ys → AllByRecursion Q ys → AllByRecursion (λ x. P x × Q x) ys
          join P Q [] one other = tt
          join P Q (y ∷ ys) one other = ((one.0, other.0), join P Q ys one.1 other.1)

          both : (m n : ℕ) → AllByRecursion (λ x. (first x ≡ m) × (second x ≡ n)) (of_second m n)
          both m n = join (λ x. first x ≡ m) (λ x. second x ≡ n) (of_second m n) (all_filter before (λ x. first x ≡ m) (has_key second n) (of_first m) (keys_of first m (sorted before xs))) (keys_of second n (of_first m))

    firsts_are : (i : ℕ) → of_first i ≡ gather (λ j. gather (with_keys first second third xs i j) thirds) seconds
    firsts_are i =
        let small = all_filter before (λ x. second x < seconds) (has_key first i) (sorted before xs) (all_sorted before (λ x. second x < seconds) xs few_seconds) in
        let rises = rises_by second before (λ x. first x ≡ i) (λ x y one other less. by_second x y (one ∙ sym other) less) (of_first i) (keys_of first i (sorted before xs)) (first_rises i) in
        rises_gathered second seconds (of_first i) small rises ∙ gather_agree (of_second i) (λ j. gather (with_keys first second third xs i j) thirds) seconds (λ j below. seconds_are i j)

    whole : sorted before xs ≡ gathered_by_keys first second third firsts seconds thirds xs
    whole =
        let small = all_sorted before (λ x. first x < firsts) xs few_firsts in
        let rises = rises_by first before (λ x. Unit {0}) (λ x y one other less. by_first x y less) (sorted before xs) (units (sorted before xs)) (sorted_rises before order xs) in
        rises_gathered first firsts (sorted before xs) small rises ∙ gather_agree of_first (λ i. gather (λ j. gather (with_keys first second third xs i j) thirds) seconds) firsts (λ i below. firsts_are i) where
          units : (ys : List X) → AllByRecursion (λ x. Unit {0}) ys
          units [] = tt
          units (y ∷ ys) = (tt, units ys)

  -- where an order goes by these numbers alone, elements with the same three stay as they stood
  pub sorted_is_gathered_stably : ((x y : X) → first x ≡ first y → second x ≡ second y → third x ≡ third y → before x y ≡ false) → (firsts seconds thirds : ℕ) (xs : List X)
      → AllByRecursion (λ x. first x < firsts) xs → AllByRecursion (λ x. second x < seconds) xs → AllByRecursion (λ x. third x < thirds) xs → sorted before xs ≡ gathered_by_keys first second third firsts seconds thirds xs
  sorted_is_gathered_stably tied firsts seconds thirds xs few_firsts few_seconds few_thirds = sorted_is_gathered firsts seconds thirds xs few_firsts few_seconds few_thirds ties where
    own_rise : (i j k : ℕ) (ys : List X) → AllByRecursion (λ x. first x ≡ i) ys → AllByRecursion (λ x. second x ≡ j) ys → AllByRecursion (λ x. third x ≡ k) ys → Rises before ys
    own_rise i j k [] ones twos threes = tt
    own_rise i j k (x ∷ ys) ones twos threes = (none ys ones.1 twos.1 threes.1, own_rise i j k ys ones.1 twos.1 threes.1) where
      none : (zs : List X) → AllByRecursion (λ z. first z ≡ i) zs → AllByRecursion (λ z. second z ≡ j) zs → AllByRecursion (λ z. third z ≡ k) zs → AllByRecursion (λ z. before z x ≡ false) zs
      none [] its two three = tt
      none (z ∷ zs) its two three = (tied z x (its.0 ∙ sym ones.0) (two.0 ∙ sym twos.0) (three.0 ∙ sym threes.0), none zs its.1 two.1 three.1)

    ties : (i j k : ℕ) → Rises before (with_keys first second third xs i j k)
    ties i j k =
        let own = filter (has_key first i) xs in
        let both = filter (has_key second j) own in
        own_rise i j k (with_keys first second third xs i j k)
        (all_filter before (λ x. first x ≡ i) (has_key third k) both (all_filter before (λ x. first x ≡ i) (has_key second j) own (keys_of first i xs)))
        (all_filter before (λ x. second x ≡ j) (has_key third k) both (keys_of second j own))
        (keys_of third k both)
