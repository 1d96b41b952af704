-- Nets that get slots, and tables of them.
use Rattle.std.proofs.Common.{◌≡◌, ◌<◌, ◌≤◌, ◌+◌, ◌&&◌, ◌||◌, ◌∷◌, ◌++◌, ℕ, zero, suc, Bool, true, false, not, List, [], length, get_or, set, eqb, nat_lt, Option, Some, None, option_map, if◌then◌else◌, ap, ap₂, refl, sym, ◌∙◌, ⊎_elim, true≢false, eqb-true, eq-eqb, lt-ltb, inl, inr, ◌⊎◌, arith}
use Rattle.std.specs.Prelude.{unwrap_or}
use Rattle.std.specs.List.{count_by, range_with_len}
use Rattle.std.specs.Option.{is_some}
use Rattle.std.proofs.lemmas.Bool.{and_from, and_parts, cases_eq, cases_lt, ltb-false, ltb-true, ne_eqb, or_cases}
use Rattle.std.proofs.lemmas.List.{get_or-set_other, get_or-set_same, length-set, length_push}
use Rattle.vw_net.specs.Order.{is_among}
use Rattle.vw_net.specs.Steps.Bits.{one_if}
use Rattle.vw_net.proofs.CountsOverLists.{count_cons}
use Rattle.vw_prog.specs.Codes.{HasSlot, net_slot}
use Rattle.vw_prog.specs.Coding.{IsTable, cleared, named, named_all, no_slot, slot_in}

-- ---- slots

push_other : (nets : List ℕ) (net other : ℕ) → (net ≡ other → ⊥) → net_slot (nets ++ net ∷ []) other ≡ net_slot nets other
push_other [] net other apart = ap (λ (same : Bool). if same then Some 0 else None) (ne_eqb net other apart)
push_other (first ∷ nets) net other apart = ap (λ (rest : Option ℕ). if eqb first other then Some 0 else option_map suc rest) (push_other nets net other apart)

push_new : (nets : List ℕ) (net : ℕ) → net_slot nets net ≡ None → net_slot (nets ++ net ∷ []) net ≡ Some (length nets)
push_new [] net new = ap (λ (same : Bool). if same then Some 0 else None) (eq-eqb net net refl)
push_new (first ∷ nets) net new = by (eqb first net) (net_slot nets net) refl new (λ rest. push_new nets net rest) where
  by : (same : Bool) (found : Option ℕ) → net_slot nets net ≡ found → (if same then Some 0 else option_map suc found) ≡ None
      → (net_slot nets net ≡ None → net_slot (nets ++ net ∷ []) net ≡ Some (length nets))
      → (if same then Some 0 else option_map suc (net_slot (nets ++ net ∷ []) net)) ≡ Some (suc (length nets))
  by true found there none rest = cc
  by false (Some place) there none rest = cc
  by false None there none rest = ap (option_map suc) (rest there)

-- a slot is below the number of nets
pub below : (nets : List ℕ) (net slot : ℕ) → net_slot nets net ≡ Some slot → slot < length nets
below [] net slot is = cc
below (first ∷ nets) net slot is = by (eqb first net) (net_slot nets net) refl is (λ place there. below nets net place there) where
  by : (same : Bool) (found : Option ℕ) → net_slot nets net ≡ found → (if same then Some 0 else option_map suc found) ≡ Some slot
      → ((place : ℕ) → net_slot nets net ≡ Some place → place < length nets) → slot < suc (length nets)
  by true found there at rest = let same : 0 ≡ slot = cc in omega (arith, same)
  by false None there at rest = cc
  by false (Some place) there at rest = let same : suc place ≡ slot = cc in omega (arith, same, rest place there)

-- ---- a table with a slot more

count_set : (test : ℕ → Bool) (xs : List ℕ) (place x : ℕ) → place < length xs → test (get_or xs place 0) ≡ true → test x ≡ false
    → count_by test (set xs place x) + 1 ≡ count_by test xs
count_set test [] place x within old new = absurd (omega (arith, within))
count_set test (y ∷ ys) zero x within old new = omega (arith, count_cons test x ys, count_cons test y ys, ap one_if old, ap one_if new)
count_set test (y ∷ ys) (suc place) x within old new = omega (arith, count_cons test y (set ys place x), count_cons test y ys, count_set test ys place x (omega (arith, within)) old new)

abbrev pub is_none : ℕ → Bool
is_none slot = eqb slot no_slot

module _ (nets table : List ℕ) (is : IsTable nets table) (few : length table < no_slot) (net : ℕ) where
  pub few_nets : length nets ≤ length table
  few_nets = omega (arith, is.free)

  module _ (free : (nat_lt net (length table) && is_none (slot_in table net)) ≡ true) where
    within : net < length table
    within = ltb-true net (length table) (and_parts (nat_lt net (length table)) (is_none (slot_in table net)) free).0

    no_one : net_slot nets net ≡ None
    no_one = by (net_slot nets net) refl where
      by : (found : Option ℕ) → net_slot nets net ≡ found → found ≡ None
      by None there = refl
      by (Some slot) there =
          let at : slot_in table net ≡ slot = is.slots net within ∙ ap (λ (one : Option ℕ). unwrap_or one no_slot) there in
          let past : slot_in table net ≡ no_slot = eqb-true (slot_in table net) no_slot (and_parts (nat_lt net (length table)) (is_none (slot_in table net)) free).1 in
          absurd (omega (arith, below nets net slot there, few_nets, few, at, past))

    pub named_new : nets ++ net ∷ [] ≡ named (length table) nets net
    named_new = sym (ap₂ (λ (low : Bool) (slot : Option ℕ). if low && not (is_some slot) then nets ++ net ∷ [] else nets) (lt-ltb net (length table) within) no_one)

    pub table_more : IsTable (nets ++ net ∷ []) (set table net (length nets))
    table_more =
        let long = length-set table net (length nets) in
        let own : is_none (get_or table net 0) ≡ true = (and_parts (nat_lt net (length table)) (is_none (slot_in table net)) free).1 in
        let new : is_none (length nets) ≡ false = ne_eqb (length nets) no_slot (λ same. omega (arith, same, few_nets, few)) in
        record {
          slots = λ other low.
              let if_same = λ (same : other ≡ net).
              ap (λ (one : ℕ). get_or (set table net (length nets)) one 0) same ∙ get_or-set_same table net (length nets) 0 within
              ∙ sym (ap (λ (one : ℕ). unwrap_or (net_slot (nets ++ net ∷ []) one) no_slot) same ∙ ap (λ (one : Option ℕ). unwrap_or one no_slot) (push_new nets net no_one)) in
              let if_other = λ (apart : other ≡ net → ⊥).
              get_or-set_other table net other (length nets) 0 apart ∙ is.slots other (omega (arith, low, long))
              ∙ sym (ap (λ (one : Option ℕ). unwrap_or one no_slot) (push_other nets net other (λ same. apart (sym same)))) in
              ⊎_elim if_same if_other (cases_eq other net);
          free = omega (arith, is.free, long, length_push nets net, count_set is_none table net (length nets) within own new);
        }

  pub named_old : (nat_lt net (length table) && is_none (slot_in table net)) ≡ false → nets ≡ named (length table) nets net
  named_old taken = sym (by (nat_lt net (length table)) (net_slot nets net) refl refl) where
    by : (low : Bool) (found : Option ℕ) → nat_lt net (length table) ≡ low → net_slot nets net ≡ found
        → (if low && not (is_some found) then nets ++ net ∷ [] else nets) ≡ nets
    by false found at there = refl
    by true (Some slot) at there = refl
    by true None at there =
        let none : slot_in table net ≡ no_slot = is.slots net (ltb-true net (length table) at) ∙ ap (λ (one : Option ℕ). unwrap_or one no_slot) there in
        let free : (nat_lt net (length table) && is_none (slot_in table net)) ≡ true = and_from (nat_lt net (length table)) (is_none (slot_in table net)) at (eq-eqb (slot_in table net) no_slot none) in
        absurd (true≢false (sym free ∙ taken))

-- ---- a table that is cleared

pub length-cleared : (nets table : List ℕ) → length (cleared nets table) ≡ length table
length-cleared [] table = refl
length-cleared (net ∷ nets) table = length-cleared nets (if nat_lt net (length table) then set table net no_slot else table) ∙ by (nat_lt net (length table)) where
  by : (low : Bool) → length (if low then set table net no_slot else table) ≡ length table
  by true = length-set table net no_slot
  by false = refl

cleared_at : (nets table : List ℕ) (net : ℕ) → net < length table → (is_among nets net ≡ true) ⊎ (get_or table net 0 ≡ no_slot)
    → get_or (cleared nets table) net 0 ≡ no_slot
cleared_at [] table net within why = ⊎_elim (λ none. absurd (true≢false (sym none))) (λ at. at) why
cleared_at (first ∷ nets) table net within why =
    cleared_at nets (if nat_lt first (length table) then set table first no_slot else table) net (omega (arith, within, long (nat_lt first (length table)))) (by (nat_lt first (length table)) refl why) where
      long : (low : Bool) → length (if low then set table first no_slot else table) ≡ length table
      long true = length-set table first no_slot
      long false = refl

      kept : (low : Bool) → nat_lt first (length table) ≡ low → get_or table net 0 ≡ no_slot
          → get_or (if low then set table first no_slot else table) net 0 ≡ no_slot
      kept false test at = at
      kept true test at =
          ⊎_elim (λ (same : net ≡ first). ap (λ (one : ℕ). get_or (set table first no_slot) one 0) same ∙ get_or-set_same table first no_slot 0 (ltb-true first (length table) test))
          (λ (apart : net ≡ first → ⊥). get_or-set_other table first net no_slot 0 apart ∙ at) (cases_eq net first)

      here : (low : Bool) → nat_lt first (length table) ≡ low → first ≡ net → get_or (if low then set table first no_slot else table) net 0 ≡ no_slot
      here true test same = ap (λ (one : ℕ). get_or (set table first no_slot) one 0) (sym same) ∙ get_or-set_same table first no_slot 0 (ltb-true first (length table) test)
      here false test same = absurd (omega (arith, ltb-false first (length table) test, same, within))

      by : (low : Bool) → nat_lt first (length table) ≡ low → (is_among (first ∷ nets) net ≡ true) ⊎ (get_or table net 0 ≡ no_slot)
          → (is_among nets net ≡ true) ⊎ (get_or (if low then set table first no_slot else table) net 0 ≡ no_slot)
      by low test (inl among) = ⊎_elim (λ same. inr (here low test (eqb-true first net same))) (λ rest. inl rest) (or_cases (eqb first net) (is_among nets net) among)
      by low test (inr at) = inr (kept low test at)

count_all : (test : ℕ → Bool) (xs : List ℕ) → ((place : ℕ) → place < length xs → test (get_or xs place 0) ≡ true) → count_by test xs ≡ length xs
count_all test [] all = refl
count_all test (x ∷ xs) all = omega (arith, count_cons test x xs, ap one_if (all 0 (omega arith)), count_all test xs (λ place within. all (suc place) (omega (arith, within))))

-- a net with a slot is among them
slot_among : (nets : List ℕ) (net slot : ℕ) → net_slot nets net ≡ Some slot → is_among nets net ≡ true
slot_among [] net slot is = cc
slot_among (first ∷ nets) net slot is = by (eqb first net) (net_slot nets net) refl is (λ place there. slot_among nets net place there) where
  by : (same : Bool) (found : Option ℕ) → net_slot nets net ≡ found → (if same then Some 0 else option_map suc found) ≡ Some slot
      → ((place : ℕ) → net_slot nets net ≡ Some place → is_among nets net ≡ true) → (same || is_among nets net) ≡ true
  by true found there at rest = refl
  by false None there at rest = cc
  by false (Some place) there at rest = rest place there

pub table_cleared : (nets table : List ℕ) → IsTable nets table → IsTable [] (cleared nets table)
table_cleared nets table is =
    let none = λ (net : ℕ) (low : net < length (cleared nets table)).
    let within : net < length table = omega (arith, low, length-cleared nets table) in
    cleared_at nets table net within (by net (net_slot nets net) refl (is.slots net within)) in
    record {
      slots = λ net low. none net low;
      free = omega (arith, count_all is_none (cleared nets table) (λ net low. eq-eqb (get_or (cleared nets table) net 0) no_slot (none net low)));
    } where
      by : (net : ℕ) (found : Option ℕ) → net_slot nets net ≡ found → get_or table net 0 ≡ unwrap_or (net_slot nets net) no_slot
          → (is_among nets net ≡ true) ⊎ (get_or table net 0 ≡ no_slot)
      by net (Some slot) there at = inl (slot_among nets net slot there)
      by net None there at = inr (at ∙ ap (λ (one : Option ℕ). unwrap_or one no_slot) there)

-- ---- nets that were named

-- what has a slot keeps it
named_keeps : (count : ℕ) (nets : List ℕ) (net other slot : ℕ) → net_slot nets other ≡ Some slot → net_slot (named count nets net) other ≡ Some slot
named_keeps count nets net other slot is = by (nat_lt net count) (net_slot nets net) refl where
  by : (low : Bool) (found : Option ℕ) → net_slot nets net ≡ found → net_slot (if low && not (is_some found) then nets ++ net ∷ [] else nets) other ≡ Some slot
  by false found there = is
  by true (Some place) there = is
  by true None there = push_other nets net other (λ same. none same there) ∙ is where
    none : net ≡ other → net_slot nets net ≡ None → ⊥
    none same there = let both : Some slot ≡ None = sym is ∙ ap (net_slot nets) (sym same) ∙ there in cc

pub all_keep : (count : ℕ) (nets list : List ℕ) (other slot : ℕ) → net_slot nets other ≡ Some slot → net_slot (named_all count nets list) other ≡ Some slot
all_keep count nets [] other slot is = is
all_keep count nets (net ∷ list) other slot is = all_keep count (named count nets net) list other slot (named_keeps count nets net other slot is)

named_has : (count : ℕ) (nets : List ℕ) (net : ℕ) → net < count → HasSlot (named count nets net) net
named_has count nets net low = by (net_slot nets net) refl where
  by : (found : Option ℕ) → net_slot nets net ≡ found → HasSlot (named count nets net) net
  by (Some slot) there = (slot, named_keeps count nets net net slot there)
  by None there = (length nets, ap₂ (λ (test : Bool) (found : Option ℕ). net_slot (if test && not (is_some found) then nets ++ net ∷ [] else nets) net) (lt-ltb net count low) there ∙ push_new nets net there)

pub all_have_slots : (count : ℕ) (nets list : List ℕ) (net : ℕ) → net < count → is_among list net ≡ true → HasSlot (named_all count nets list) net
all_have_slots count nets [] net low among = absurd (true≢false (sym among))
all_have_slots count nets (first ∷ list) net low among =
    let if_first = λ (same : eqb first net ≡ true).
    let is : first ≡ net = eqb-true first net same in
    let has = named_has count nets first (omega (arith, is, low)) in
    let whole : HasSlot (named_all count nets (first ∷ list)) net = (has.0, all_keep count (named count nets first) list net has.0 (ap (net_slot (named count nets first)) (sym is) ∙ has.1)) in whole in
    let if_later = λ (later : is_among list net ≡ true). all_have_slots count (named count nets first) list net low later in
    ⊎_elim if_first if_later (or_cases (eqb first net) (is_among list net) among)

-- the first nets have the first slots
pub first_slots : (many count first : ℕ) (nets list : List ℕ) → first + many ≤ count → length nets ≡ first
    → ((net : ℕ) → first ≤ net → net_slot nets net ≡ None) → ((net : ℕ) → net < first → net_slot nets net ≡ Some net)
    → (net : ℕ) → net < first + many → net_slot (named_all count nets (range_with_len first many ++ list)) net ≡ Some net
first_slots zero count first nets list room long none some net low = all_keep count nets list net net (some net (omega (arith, low)))
first_slots (suc many) count first nets list room long none some net low =
    let new : named count nets first ≡ nets ++ first ∷ [] = ap₂ (λ (test : Bool) (found : Option ℕ). if test && not (is_some found) then nets ++ first ∷ [] else nets) (lt-ltb first count (omega (arith, room))) (none first (omega arith)) in
    let now = nets ++ first ∷ [] in
    let rest = first_slots many count (first + 1) now list (omega (arith, room)) (length_push nets first ∙ ap (λ (n : ℕ). n + 1) long)
    (λ other past. push_other nets first other (λ same. omega (arith, same, past)) ∙ none other (omega (arith, past)))
    (λ other under. ⊎_elim (λ (before : other < first). push_other nets first other (λ same. omega (arith, same, before)) ∙ some other before)
    (λ (at : first ≤ other). let same : first ≡ other = omega (arith, at, under) in ap (net_slot now) (sym same) ∙ push_new nets first (none first (omega arith)) ∙ ap Some (long ∙ same)) (cases_lt other first))
    net (omega (arith, low)) in
    ap (λ (named_now : List ℕ). net_slot (named_all count named_now (range_with_len (first + 1) many ++ list)) net) new ∙ rest
