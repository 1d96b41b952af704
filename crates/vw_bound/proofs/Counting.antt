-- Counts by parts, and counts of pairs and of what each of them has.
use Rattle.std.proofs.Common.{◌≡◌, ◌≤◌, ◌+◌, ◌++◌, ℕ, suc, Bool, true, false, List, [], ◌∷◌, slice_get, Some, eqb, cond, ap, ap₂, refl, sym, ◌∙◌, ◌⊎◌, ⊎_elim, eqb-true, true≢false, arith}
use Rattle.std.specs.List.{count_by, flat_map, list_any}
use Rattle.std.proofs.lemmas.Bool.{and_parts, cases_Bool, or_cases}
use Rattle.vw_net.specs.Steps.Bits.{one_if}
use Rattle.vw_net.proofs.CountsOverLists.{count_append, count_cons, some_counted}
use Rattle.vw_plan.specs.declared.need.Need.{Need}
use Rattle.vw_plan.specs.Needs.{is_pair}
use Rattle.vw_bound.proofs.ListedNeeds.{own_pair}

module _ {X : Type 0} where
  -- a test that nothing passes
  pub count_none : (test : X → Bool) (xs : List X) → ((x : X) → test x ≡ false) → count_by test xs ≡ 0
  count_none test [] none = refl
  count_none test (x ∷ xs) none = omega (arith, count_cons test x xs, ap one_if (none x), count_none test xs none)

  -- a test of which each that passes passes one of two others
  pub count_split : (whole one other : X → Bool) (xs : List X) → ((x : X) → whole x ≡ true → (one x ≡ true) ⊎ (other x ≡ true))
      → count_by whole xs ≤ count_by one xs + count_by other xs
  count_split whole one other [] split = omega arith
  count_split whole one other (x ∷ xs) split =
      let rest = count_split whole one other xs split in
      let Goal = count_by whole (x ∷ xs) ≤ count_by one (x ∷ xs) + count_by other (x ∷ xs) in
      let if_one = λ (is : one x ≡ true). λ (all : whole x ≡ true). let got : Goal = omega (arith, rest, ap one_if is, ap one_if all, count_cons whole x xs, count_cons one x xs, count_cons other x xs) in got in
      let if_other = λ (is : other x ≡ true). λ (all : whole x ≡ true). let got : Goal = omega (arith, rest, ap one_if is, ap one_if all, count_cons whole x xs, count_cons one x xs, count_cons other x xs) in got in
      let if_passes = λ (all : whole x ≡ true). ⊎_elim (λ is. if_one is all) (λ is. if_other is all) (split x all) in
      let if_not = λ (no : whole x ≡ false). let got : Goal = omega (arith, rest, ap one_if no, count_cons whole x xs, count_cons one x xs, count_cons other x xs) in got in
      ⊎_elim if_passes if_not (cases_Bool (whole x))

  -- one that passes is counted
  pub any_counted : (test : X → Bool) (xs : List X) → list_any test xs ≡ true → 1 ≤ count_by test xs
  any_counted test [] any = absurd (true≢false (sym any))
  any_counted test (x ∷ xs) any =
      let if_here = λ (here : test x ≡ true). let got : 1 ≤ count_by test (x ∷ xs) = omega (arith, count_cons test x xs, ap one_if here) in got in
      let if_later = λ (later : list_any test xs ≡ true). let got : 1 ≤ count_by test (x ∷ xs) = omega (arith, count_cons test x xs, any_counted test xs later) in got in
      ⊎_elim if_here if_later (or_cases (test x) (list_any test xs) any)

-- where each element that passes has one that passes, no more pass than of all that they have
pub counted_within : {X Y : Type 0} (test : X → Bool) (hit : Y → Bool) (each : X → List Y) (xs : List X)
    → ((number : ℕ) (x : X) → slice_get xs number ≡ Some x → test x ≡ true → list_any hit (each x) ≡ true)
    → count_by test xs ≤ count_by hit (flat_map each xs)
counted_within test hit each [] has = omega arith
counted_within test hit each (x ∷ xs) has =
    let rest = counted_within test hit each xs (λ number y at passes. has (suc number) y at passes) in
    let parts = count_append hit (each x) (flat_map each xs) in
    let first = count_cons test x xs in
    let Goal = count_by test (x ∷ xs) ≤ count_by hit (each x ++ flat_map each xs) in
    let if_passes = λ (is : test x ≡ true). let got : Goal = omega (arith, rest, parts, first, ap one_if is, any_counted hit (each x) (has 0 x refl is)) in got in
    let if_not = λ (no : test x ≡ false). let got : Goal = omega (arith, rest, parts, first, ap one_if no) in got in
    ⊎_elim if_passes if_not (cases_Bool (test x))

-- ---- pairs

-- the pairs without the first that is of a net and a node
abbrev without : ℕ → ℕ → List Need → List Need
without net node [] = []
without net node (need ∷ needs) = cond (is_pair net node need) needs (need ∷ without net node needs)

count_without : (net node : ℕ) (needs : List Need) → list_any (is_pair net node) needs ≡ true → (test : Need → Bool)
    → count_by test needs ≡ one_if (test (record { net = net; to = node })) + count_by test (without net node needs)
count_without net node [] any test = absurd (true≢false (sym any))
count_without net node (need ∷ needs) any test =
    let one : Need = record { net = net; to = node } in
    let Goal = count_by test (need ∷ needs) ≡ one_if (test one) + count_by test (without net node (need ∷ needs)) in
    let if_is = λ (is : is_pair net node need ≡ true).
    let parts = and_parts (eqb need.net net) (eqb need.to node) is in
    let same : need ≡ one = ap₂ (λ (n t : ℕ). record { net = n; to = t }) (eqb-true need.net net parts.0) (eqb-true need.to node parts.1) in
    let kept : without net node (need ∷ needs) ≡ needs = ap (λ (bit : Bool). cond bit needs (need ∷ without net node needs)) is in
    let got : Goal = omega (arith, count_cons test need needs, ap (λ (n : Need). one_if (test n)) same, ap (λ (list : List Need). count_by test list) kept) in got in
    let if_not = λ (no : is_pair net node need ≡ false).
    let later : list_any (is_pair net node) needs ≡ true = ⊎_elim (λ here. absurd (true≢false (sym here ∙ no))) (λ there. there) (or_cases (is_pair net node need) (list_any (is_pair net node) needs) any) in
    let kept : without net node (need ∷ needs) ≡ need ∷ without net node needs = ap (λ (bit : Bool). cond bit needs (need ∷ without net node needs)) no in
    let got : Goal = omega (arith, count_cons test need needs, count_cons test need (without net node needs), count_without net node needs later test, ap (λ (list : List Need). count_by test list) kept) in got in
    ⊎_elim if_is if_not (cases_Bool (is_pair net node need))

-- where no pair is listed more often than in another list, no more pairs pass a test than there
pub pairs_counted : (needs others : List Need) → ((net node : ℕ) → count_by (is_pair net node) needs ≤ count_by (is_pair net node) others)
    → (test : Need → Bool) → count_by test needs ≤ count_by test others
pairs_counted [] others few test = omega arith
pairs_counted (need ∷ needs) others few test =
    let net = need.net in
    let node = need.to in
    let own : 1 ≤ count_by (is_pair net node) others = omega (arith, few net node, count_cons (is_pair net node) need needs, ap one_if (own_pair need)) in
    let any = some_counted (is_pair net node) others own in
    let rest = pairs_counted needs (without net node others) (λ other at. omega (arith, few other at, count_cons (is_pair other at) need needs, count_without net node others any (is_pair other at))) test in
    omega (arith, rest, count_cons test need needs, count_without net node others any test)
