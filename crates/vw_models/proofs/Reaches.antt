-- Numbers that are reached one after the other, until all are.
use Rattle.std.proofs.Common.{◌≡◌, ◌<◌, ◌≤◌, ◌+◌, ℕ, zero, suc, Bool, true, false, cond, List, [], ◌∷◌, ◌++◌, length, length-append, get_or, slice_get, Option, Some, None, ⊎_elim, refl, sym, ◌∙◌, ap, subst, eqb, true≢false, arith}
use Rattle.std.specs.List.{IsDistinct}
use Rattle.std.proofs.lemmas.Bool.{cases_lt}
use Rattle.std.proofs.lemmas.List.{get_or_append_left}
use Rattle.std.proofs.lemmas.Option.{none-some, same_Some}
use Rattle.vw_net.proofs.Orders.{among_at, at_among}
use Rattle.vw_net.proofs.Lists.{once_none}
use Rattle.vw_net.specs.Order.{is_among}
use Rattle.vw_models.specs.Steps.Reach.{Targets, PlacesAt, AreWithin, IsClosedByPlacing, AreReached, with_number, with_targets, AreFlagged, AreReachFlags}
use Rattle.vw_order.proofs.Among.{among_left, among_either, among_one, among_last, once_push, once_short}

-- numbers grow at their end
pub record Grows (old new : List ℕ) : Type 0 where
  pub longer : length old ≤ length new
  pub same : (i : ℕ) → i < length old → get_or new i 0 ≡ get_or old i 0
  pub keeps : (number : ℕ) → is_among old number ≡ true → is_among new number ≡ true

grows_on : (old middle new : List ℕ) → Grows old middle → Grows middle new → Grows old new
grows_on old middle new first then = record {
  longer = omega (arith, first.longer, then.longer);
  same = λ i within. then.same i (omega (arith, first.longer)) ∙ first.same i within;
  keeps = λ number among. then.keeps number (first.keeps number among);
}

grows_not : (old : List ℕ) → Grows old old
grows_not old = record { longer = omega arith; same = λ i within. refl; keeps = λ number among. among }

grows_by : (old : List ℕ) (number : ℕ) → Grows old (old ++ number ∷ [])
grows_by old number = record {
  longer = omega (arith, length-append old (number ∷ []));
  same = λ i within. get_or_append_left old (number ∷ []) 0 i within;
  keeps = λ other among. among_left old (number ∷ []) other among;
}

module _ (targets : Targets) where
  -- numbers of models that are reached, each once
  pub record AreGood (found : List ℕ) : Type 0 where
    pub once : IsDistinct eqb found
    pub within : (number : ℕ) → is_among found number ≡ true → number < length targets
    pub reached : AreReached targets found

  -- a number that may be added
  pub record MayBeAdded (number : ℕ) : Type 0 where
    pub within : number < length targets
    pub reached : (test : ℕ → Bool) → IsClosedByPlacing targets test → test number ≡ true

  pub record IsAdded (found : List ℕ) (number : ℕ) (new : List ℕ) : Type 0 where
    pub good : AreGood new
    pub grows : Grows found new
    pub has : is_among new number ≡ true

  add_by : (found : List ℕ) (number : ℕ) (among : Bool) → is_among found number ≡ among → AreGood found → MayBeAdded number → IsAdded found number (cond among found (found ++ number ∷ []))
  add_by found number true is good fit = record { good = good; grows = grows_not found; has = is }
  add_by found number false is good fit = record {
    good = record {
      once = once_push found number good.once is;
      within = λ other among. ⊎_elim (λ old. good.within other old) (λ new. subst (λ (n : ℕ). n < length targets) (among_one number other new) fit.within) (among_either found (number ∷ []) other among);
      reached = λ test closed other among.
          ⊎_elim (λ old. good.reached test closed other old) (λ new. ap test (sym (among_one number other new)) ∙ fit.reached test closed) (among_either found (number ∷ []) other among);
    };
    grows = grows_by found number;
    has = among_last found number;
  }

  pub add : (found : List ℕ) (number : ℕ) → AreGood found → MayBeAdded number → IsAdded found number (with_number found number)
  add found number good fit = add_by found number (is_among found number) refl good fit

  pub record AddsPlaced (found : List ℕ) (placed : List (Option ℕ)) (new : List ℕ) : Type 0 where
    pub good : AreGood new
    pub grows : Grows found new
    pub has : (place number : ℕ) → slice_get placed place ≡ Some (Some number) → is_among new number ≡ true

  pub add_all : (found : List ℕ) (placed : List (Option ℕ)) → AreGood found → ((place number : ℕ) → slice_get placed place ≡ Some (Some number) → MayBeAdded number)
      → AddsPlaced found placed (with_targets found placed)
  add_all found [] good fit = record { good = good; grows = grows_not found; has = λ place number at. absurd (none-some (Some number) at) }
  add_all found (None ∷ placed) good fit =
      let rest = add_all found placed good (λ place number at. fit (suc place) number at) in
      record { good = rest.good; grows = rest.grows; has = has rest } where
        has : AddsPlaced found placed (with_targets found placed) → (place number : ℕ) → slice_get (None ∷ placed) place ≡ Some (Some number) → is_among (with_targets found placed) number ≡ true
        has rest zero number at = absurd (none-some number (same_Some None (Some number) at))
        has rest (suc place) number at = rest.has place number at
  add_all found (Some first ∷ placed) good fit =
      let one = add found first good (fit 0 first refl) in
      let rest = add_all (with_number found first) placed one.good (λ place number at. fit (suc place) number at) in
      record { good = rest.good; grows = grows_on found (with_number found first) (with_targets (with_number found first) placed) one.grows rest.grows; has = has one rest } where
        has : IsAdded found first (with_number found first) → AddsPlaced (with_number found first) placed (with_targets (with_number found first) placed)
            → (place number : ℕ) → slice_get (Some first ∷ placed) place ≡ Some (Some number) → is_among (with_targets (with_number found first) placed) number ≡ true
        has one rest zero number at =
            let same : first ≡ number = same_Some first number (same_Some (Some first) (Some number) at) in
            ap (is_among (with_targets (with_number found first) placed)) (sym same) ∙ rest.grows.keeps first one.has
        has one rest (suc place) number at = rest.has place number at

  -- how far it has come: what the first ones place is there
  pub record IsReaching (at : ℕ) (found : List ℕ) : Type 0 where
    pub good : AreGood found
    pub root : is_among found 0 ≡ true
    pub far : at ≤ length found
    pub closed : (i place placed : ℕ) → i < at → PlacesAt targets (get_or found i 0) place placed → is_among found placed ≡ true

  -- what a number that was reached places may be added
  fit : AreWithin targets → (found : List ℕ) → AreGood found → (number : ℕ) → is_among found number ≡ true → (place placed : ℕ) → PlacesAt targets number place placed → MayBeAdded placed
  fit within found good number among place placed places = record {
    within = within.within number place placed places;
    reached = λ test closed. closed.placed number place placed (good.reached test closed number among) places;
  }

  pub start : AreWithin targets → IsReaching 0 (with_number [] 0)
  start within =
      let empty : AreGood [] = record { once = once_none; within = λ number among. absurd (true≢false (sym among)); reached = λ test closed number among. absurd (true≢false (sym among)) } in
      let one = add [] 0 empty (record { within = within.some; reached = λ test closed. closed.root }) in
      record { good = one.good; root = one.has; far = omega arith; closed = λ i place placed before. absurd (omega arith) }

  pub go_on : AreWithin targets → (at : ℕ) (found : List ℕ) → IsReaching at found → at < length found
      → IsReaching (at + 1) (with_targets found (get_or targets (get_or found at 0) []))
  go_on within at found far here =
      let number = get_or found at 0 in
      let added = add_all found (get_or targets number []) far.good (λ place placed places. fit within found far.good number (at_among found at 0 here) place placed places) in
      record {
        good = added.good;
        root = added.grows.keeps 0 far.root;
        far = omega (arith, added.grows.longer);
        closed = λ i place placed before places.
            let same : get_or (with_targets found (get_or targets number [])) i 0 ≡ get_or found i 0 = added.grows.same i (omega arith) in
            let old : PlacesAt targets (get_or found i 0) place placed = subst (λ (n : ℕ). PlacesAt targets n place placed) same places in
            ⊎_elim
            (λ earlier. added.grows.keeps placed (far.closed i place placed earlier old))
            (λ later. let is : i ≡ at = omega arith in
            added.has place placed (subst (λ (j : ℕ). PlacesAt targets (get_or found j 0) place placed) is old))
            (cases_lt i at);
      }

  pub short : (at : ℕ) (found : List ℕ) → IsReaching at found → length found ≤ length targets
  short at found far = once_short found (length targets) far.good.once far.good.within

  pub all_reached : (at : ℕ) (found : List ℕ) (flags : List Bool) → IsReaching at found → length found ≤ at → AreFlagged found flags → length flags ≡ length targets → AreReachFlags targets flags
  all_reached at found flags far all flagged each = record {
    each = each;
    closed = record {
      root = flagged 0 ∙ far.root;
      placed = λ number place placed there places.
          let index = among_at found number (sym (flagged number) ∙ there) in
          flagged placed ∙ far.closed index.0 place placed (omega (arith, index.1)) (subst (λ (n : ℕ). PlacesAt targets n place placed) (sym index.2) places);
    };
    reached = λ test closed number there. far.good.reached test closed number (sym (flagged number) ∙ there);
  }
