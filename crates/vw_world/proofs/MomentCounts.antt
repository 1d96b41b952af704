-- How many entries of a list in order come before a moment.
use Rattle.std.proofs.Common.{◌≡◌, ◌<◌, ◌≤◌, ◌+◌, ◌&&◌, ◌∷◌, ℕ, zero, suc, Bool, true, false, List, [], take, nat_lt, slice_get, ap, refl, sym, subst, ◌∙◌, ⊎_elim, true≢false, lt-ltb, le-ltb, Some, arith}
use Rattle.std.specs.List.{AllByRecursion, count_by}
use Rattle.std.proofs.lemmas.Bool.{cases_lt}
use Rattle.vw_net.specs.Steps.Bits.{one_if}
use Rattle.vw_net.proofs.CountsOverLists.{count_cons}
use Rattle.vw_prog.specs.declared.entry.Entry.{Entry}
use Rattle.vw_prog.specs.Timetable.{comes_before}
use Rattle.vw_prog.proofs.EntryOrder.{by_moment}
use Rattle.vw_net.proofs.ListParts.{all_at}
use Rattle.vw_net.proofs.SortedLists.{Rises}

-- how many entries pass a test and are before a moment
abbrev pub count_before : (Entry → Bool) → ℕ → List Entry → ℕ
count_before test moment xs = count_by (λ other. test other && nat_lt other.moment moment) xs

and_false : (one two : Bool) → two ≡ false → (one && two) ≡ false
and_false true two is = is
and_false false two is = refl

and_true : (one two : Bool) → two ≡ true → (one && two) ≡ one
and_true true two is = is
and_true false two is = refl

and_at_most : (one two : Bool) → one_if (one && two) ≤ one_if one
and_at_most true true = omega arith
and_at_most true false = omega arith
and_at_most false two = omega arith

-- ---- before a place of a list in order

-- what isn't before an entry isn't at an earlier moment
not_earlier : (entry other : Entry) → comes_before other entry ≡ false → entry.moment ≤ other.moment
not_earlier entry other is =
    let if_less = λ (less : other.moment < entry.moment).
    let no : entry.moment ≤ other.moment = absurd (true≢false (sym (by_moment other entry less) ∙ is)) in no in
    ⊎_elim if_less (λ past. past) (cases_lt other.moment entry.moment)

-- no entry of a list is before one
abbrev NoneBefore : Entry → List Entry → Type 0
NoneBefore entry xs = AllByRecursion (λ other. comes_before other entry ≡ false) xs

module _ (test : Entry → Bool) where
  counted_cons : (moment : ℕ) (first : Entry) (xs : List Entry)
      → count_before test moment (first ∷ xs) ≡ one_if (test first && nat_lt first.moment moment) + count_before test moment xs
  counted_cons moment first xs = count_cons (λ one. test one && nat_lt one.moment moment) first xs

  -- an entry that isn't before the moment isn't counted, and one that is before it counts by the test alone
  late_entry : (moment : ℕ) (first : Entry) → moment ≤ first.moment → one_if (test first && nat_lt first.moment moment) ≡ 0
  late_entry moment first past = ap one_if (and_false (test first) (nat_lt first.moment moment) (le-ltb first.moment moment past))

  early_entry : (moment : ℕ) (first : Entry) → first.moment < moment → one_if (test first && nat_lt first.moment moment) ≡ one_if (test first)
  early_entry moment first early = ap one_if (and_true (test first) (nat_lt first.moment moment) (lt-ltb first.moment moment early))

  none_earlier : (entry : Entry) (xs : List Entry) → NoneBefore entry xs → count_before test entry.moment xs ≡ 0
  none_earlier entry [] all = refl
  none_earlier entry (other ∷ xs) all =
      let here = late_entry entry.moment other (not_earlier entry other all.0) in
      omega (arith, counted_cons entry.moment other xs, none_earlier entry xs all.1, here)

  -- all that come at earlier moments stand before the place
  pub all_before : (xs : List Entry) (place : ℕ) (entry : Entry) → Rises comes_before xs → slice_get xs place ≡ Some entry
      → count_before test entry.moment xs ≤ count_by test (take place xs)
  all_before [] place entry rises is = cc
  all_before (first ∷ xs) zero entry rises is =
      let same : first ≡ entry = cc in
      let later = none_earlier entry xs (subst (λ (one : Entry). NoneBefore one xs) same rises.0) in
      let here = late_entry entry.moment first (omega (arith, ap (λ (one : Entry). one.moment) same)) in
      omega (arith, counted_cons entry.moment first xs, later, here)
  all_before (first ∷ xs) (suc place) entry rises is =
      let later = all_before xs place entry rises.1 is in
      let here = and_at_most (test first) (nat_lt first.moment entry.moment) in
      omega (arith, counted_cons entry.moment first xs, count_cons test first (take place xs), later, here)

  -- and an entry that is at the place, with those before it, comes no later than it
  pub none_after : (xs : List Entry) (place : ℕ) (entry : Entry) → Rises comes_before xs → slice_get xs place ≡ Some entry
      → count_by test (take place xs) + one_if (test entry) ≤ count_before test (entry.moment + 1) xs
  none_after [] place entry rises is = cc
  none_after (first ∷ xs) zero entry rises is =
      let same : first ≡ entry = cc in
      let here = early_entry (entry.moment + 1) first (omega (arith, ap (λ (one : Entry). one.moment) same)) in
      omega (arith, counted_cons (entry.moment + 1) first xs, ap (λ (one : Entry). one_if (test one)) same, here)
  none_after (first ∷ xs) (suc place) entry rises is =
      let early : first.moment ≤ entry.moment = not_earlier first entry (all_at (λ other. comes_before other first ≡ false) xs place entry rises.0 is) in
      let here = early_entry (entry.moment + 1) first (omega (arith, early)) in
      let later = none_after xs place entry rises.1 is in
      omega (arith, counted_cons (entry.moment + 1) first xs, count_cons test first (take place xs), later, here)
