-- Two lists of pairs that rise and have the same pairs are one list.
use Rattle.std.proofs.Common.{◌≡◌, ◌<◌, ◌+◌, ◌&&◌, ◌||◌, ℕ, Bool, true, false, List, [], ◌∷◌, length, get_or, nat_lt, cond, eqb, ap, ap₂, refl, sym, subst, ◌∙◌, ⊎_elim, true≢false, eqb-true, eq-eqb, arith}
use Rattle.std.specs.Cmp.{IsTotalOrder}
use Rattle.std.specs.List.{AllByRecursion, AllPairs, list_any}
use Rattle.std.specs.List.Sorted.{IsStrictlySortedBy}
use Rattle.std.specs.Ordering.{ordering_then}
use Rattle.std.specs.declared.cmp.Ordering.TheVariants.{Less, Equal, Greater}
use Rattle.std.proofs.lemmas.Bool.{cases_Bool, and_from, and_parts, or_cases, or_left}
use Rattle.std.proofs.lemmas.Cmp.{nat_cmp_total, on_total, then_total, tied_itself}
use Rattle.std.proofs.lemmas.Map.Keys.{sorted_from_all_adjacent}
use Rattle.vw_plan.specs.declared.need.Need.{Need}
use Rattle.vw_plan.specs.Needs.{comes_before, is_pair}
use Rattle.vw_plan.proofs.NeededPairs.{need_cmp, need_of}

pub need_cmp_total : IsTotalOrder need_cmp
need_cmp_total = then_total (on_total (λ (need : Need). need.net) nat_cmp_total) (on_total (λ (need : Need). need.to) nat_cmp_total)

-- a pair is that of its net and its node
is_pair-true : (net node : ℕ) (need : Need) → is_pair net node need ≡ true → need ≡ need_of net node
is_pair-true net node need is =
    let parts = and_parts (eqb need.net net) (eqb need.to node) is in
    ap₂ need_of (eqb-true need.net net parts.0) (eqb-true need.to node parts.1)

is_pair-own : (need : Need) → is_pair need.net need.to need ≡ true
is_pair-own need = and_from _ _ (eq-eqb need.net need.net refl) (eq-eqb need.to need.to refl)

-- what holds of all pairs holds of one that is listed
of_listed : (P : Need → Type 0) (needs : List Need) (net node : ℕ) → AllByRecursion P needs → list_any (is_pair net node) needs ≡ true → P (need_of net node)
of_listed P [] net node all listed = absurd (true≢false (sym listed))
of_listed P (need ∷ needs) net node all listed =
    let if_here = λ (here : is_pair net node need ≡ true). subst P (is_pair-true net node need here) all.0 in
    let if_later = λ (later : list_any (is_pair net node) needs ≡ true). of_listed P needs net node all.1 later in
    ⊎_elim if_here if_later (or_cases (is_pair net node need) (list_any (is_pair net node) needs) listed)

-- no pair is before itself, and no two before each other
not_before_itself : (need : Need) → need_cmp need need ≡ Less → ⊥
not_before_itself need less = let no : Less ≡ Equal = sym less ∙ tied_itself need_cmp_total need in cc

not_both_before : (need other : Need) → need_cmp need other ≡ Less → need_cmp other need ≡ Less → ⊥
not_both_before need other less more = not_before_itself need (need_cmp_total.trans need other need less more)

-- they have the same pairs
abbrev pub HaveSame : List Need → List Need → Type 0
HaveSame needs others = (net node : ℕ) → list_any (is_pair net node) needs ≡ list_any (is_pair net node) others

-- the first pairs are the same
same_first : (need : Need) (needs : List Need) (other : Need) (others : List Need) → AllByRecursion (λ later. need_cmp need later ≡ Less) needs → AllByRecursion (λ later. need_cmp other later ≡ Less) others → HaveSame (need ∷ needs) (other ∷ others) → need ≡ other
same_first need needs other others rise others_rise same =
    let there : list_any (is_pair need.net need.to) (other ∷ others) ≡ true = sym (same need.net need.to) ∙ or_left _ _ (is_pair-own need) in
    let here : list_any (is_pair other.net other.to) (need ∷ needs) ≡ true = same other.net other.to ∙ or_left _ _ (is_pair-own other) in
    let later_there = λ (listed : list_any (is_pair need.net need.to) others ≡ true). of_listed (λ later. need_cmp other later ≡ Less) others need.net need.to others_rise listed in
    let later_here = λ (listed : list_any (is_pair other.net other.to) needs ≡ true). of_listed (λ later. need_cmp need later ≡ Less) needs other.net other.to rise listed in
    let if_there = λ (is : is_pair need.net need.to other ≡ true). sym (is_pair-true need.net need.to other is) in
    let if_here = λ (is : is_pair other.net other.to need ≡ true). is_pair-true other.net other.to need is in
    ⊎_elim if_there (λ listed. ⊎_elim if_here (λ also. absurd (not_both_before need other (later_here also) (later_there listed))) (or_cases _ _ here)) (or_cases _ _ there)

-- a first pair isn't listed again
listed_once : (need : Need) (needs : List Need) (net node : ℕ) → AllByRecursion (λ later. need_cmp need later ≡ Less) needs → is_pair net node need ≡ true → list_any (is_pair net node) needs ≡ false
listed_once need needs net node rise is =
    let if_listed = λ (listed : list_any (is_pair net node) needs ≡ true).
    let before = of_listed (λ later. need_cmp need later ≡ Less) needs net node rise listed in
    let no : list_any (is_pair net node) needs ≡ false = absurd (not_before_itself need (subst (λ (later : Need). need_cmp need later ≡ Less) (sym (is_pair-true net node need is)) before)) in no in
    ⊎_elim if_listed (λ none. none) (cases_Bool (list_any (is_pair net node) needs))

-- and so the later ones are the same
same_later : (need : Need) (needs others : List Need) → AllByRecursion (λ later. need_cmp need later ≡ Less) needs → AllByRecursion (λ later. need_cmp need later ≡ Less) others → HaveSame (need ∷ needs) (need ∷ others) → HaveSame needs others
same_later need needs others rise others_rise same net node =
    let if_is = λ (is : is_pair net node need ≡ true). listed_once need needs net node rise is ∙ sym (listed_once need others net node others_rise is) in
    let if_not = λ (is_not : is_pair net node need ≡ false).
    let first = λ (rest : Bool). is_pair net node need || rest in
    let skip = λ (rest : Bool). ap (λ (bit : Bool). bit || rest) is_not in
    sym (skip (list_any (is_pair net node) needs)) ∙ same net node ∙ skip (list_any (is_pair net node) others) in
    ⊎_elim if_is if_not (cases_Bool (is_pair net node need))

pub unique : (needs others : List Need) → IsStrictlySortedBy need_cmp needs → IsStrictlySortedBy need_cmp others → HaveSame needs others → needs ≡ others
unfolding IsStrictlySortedBy
unique [] [] rise others_rise same = refl
unique [] (other ∷ others) rise others_rise same = absurd (true≢false (sym (or_left _ _ (is_pair-own other)) ∙ sym (same other.net other.to)))
unique (need ∷ needs) [] rise others_rise same = absurd (true≢false (sym (or_left _ _ (is_pair-own need)) ∙ same need.net need.to))
unique (need ∷ needs) (other ∷ others) rise others_rise same =
    let first : need ≡ other = same_first need needs other others rise.0 others_rise.0 same in
    let others_after : AllByRecursion (λ later. need_cmp need later ≡ Less) others = subst (λ (head : Need). AllByRecursion (λ later. need_cmp head later ≡ Less) others) (sym first) others_rise.0 in
    let same_here : HaveSame (need ∷ needs) (need ∷ others) = subst (λ (head : Need). HaveSame (need ∷ needs) (head ∷ others)) (sym first) same in
    ap₂ (λ (head : Need) (rest : List Need). head ∷ rest) first (unique needs others rise.1 others_rise.1 (same_later need needs others rise.0 others_after same_here))

-- pairs of which each comes before each later one rise
by_parts : (net same_net node same_node : Bool) → (net || (same_net && node)) ≡ true → ordering_then (cond net Less (cond same_net Equal Greater)) (cond node Less (cond same_node Equal Greater)) ≡ Less
by_parts true same_net node same_node before = refl
by_parts false true true same_node before = refl
by_parts false true false same_node before = absurd (true≢false (sym before))
by_parts false false node same_node before = absurd (true≢false (sym before))

pub sorted_from_rising : (needs : List Need) → AllPairs (λ need other. comes_before need other ≡ true) needs → IsStrictlySortedBy need_cmp needs
sorted_from_rising needs rising = sorted_from_all_adjacent need_cmp_total needs (need_of 0 0) adjacent where
  adjacent : (place : ℕ) → place + 1 < length needs → need_cmp (get_or needs place (need_of 0 0)) (get_or needs (place + 1) (need_of 0 0)) ≡ Less
  adjacent place within =
      let need = get_or needs place (need_of 0 0) in
      let other = get_or needs (place + 1) (need_of 0 0) in
      by_parts (nat_lt need.net other.net) (eqb need.net other.net) (nat_lt need.to other.to) (eqb need.to other.to) (rising place (place + 1) (need_of 0 0) (omega arith) within)
