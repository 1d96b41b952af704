-- Numbers that read each other have an order or a circle.
use Rattle.std.proofs.Common.{◌≡◌, ◌<◌, ◌≤◌, ◌+◌, ◌&&◌, not, ℕ, zero, suc, Bool, true, false, List, [], ◌∷◌, ◌++◌, length, length-append, slice_get, Option, Some, None, ◌⊎◌, inl, inr, ⊎_elim, refl, sym, ◌∙◌, ap, eqb, true≢false, arith}
use Rattle.std.specs.List.{IsDistinct}
use Rattle.std.proofs.lemmas.Bool.{and_parts, cases_Bool, cases_lt, not-true}
use Rattle.std.proofs.lemmas.Option.{none-some, same_Some}
use Rattle.vw_net.proofs.Lists.{once_none}
use Rattle.vw_net.specs.Order.{is_among}
use Rattle.vw_order.specs.Steps.Rounds.{round_from}
use Rattle.vw_order.specs.Graphs.{Graph, ReadsAt, Reads, StaysWithin}
use Rattle.vw_order.specs.Orders.{IsBehind, IsNumberOrder}
use Rattle.vw_order.specs.Circles.{IsNumberCircle, BeginsWithLeast}
use Rattle.vw_order.specs.Steps.Searches.{IsReadChain}
use Rattle.vw_order.proofs.Among.{among_either, among_one, among_last, once_push, once_short}
use Rattle.vw_order.proofs.Rounds.{IsReadChain-push, closes}
use Rattle.vw_order.proofs.LeastFirst.{has_least}
use Rattle.vw_order.proofs.DepthSearches.{behind_more}

-- a number below a bound that passes, or none does
below : (test : ℕ → Bool) (end : ℕ) → ((number : ℕ) × (number < end) × (test number ≡ true)) ⊎ ((number : ℕ) → number < end → test number ≡ false)
below test zero = inr (λ number within. absurd (omega arith))
below test (suc end) = ⊎_elim
    (λ passes. inl (end, omega arith, passes))
    (λ fails. ⊎_elim
    (λ found. inl (found.0, omega (arith, found.1), found.2))
    (λ none. inr (λ number within. ⊎_elim (λ earlier. none number earlier) (λ last. ap test (let e : number ≡ end = omega arith in e) ∙ fails) (cases_lt number end)))
    (below test end))
    (cases_Bool (test end))

-- a place of a number that isn't among others, or all are
left_place : (order : List ℕ) (reads : List (Option ℕ))
    → ((place : ℕ) × (read : ℕ) × (slice_get reads place ≡ Some (Some read)) × (is_among order read ≡ false)) ⊎ ((place read : ℕ) → slice_get reads place ≡ Some (Some read) → is_among order read ≡ true)
left_place order [] = inr (λ place read at. absurd (none-some (Some read) at))
left_place order (None ∷ reads) = ⊎_elim (λ found. inl (suc found.0, found.1, found.2, found.3)) (λ all. inr (later all)) (left_place order reads) where
  later : ((place read : ℕ) → slice_get reads place ≡ Some (Some read) → is_among order read ≡ true) → (place read : ℕ)
      → slice_get (None ∷ reads) place ≡ Some (Some read) → is_among order read ≡ true
  later all zero read at = absurd (none-some read (same_Some None (Some read) at))
  later all (suc place) read at = all place read at
left_place order (Some first ∷ reads) = ⊎_elim
    (λ done. ⊎_elim (λ found. inl (suc found.0, found.1, found.2, found.3)) (λ all. inr (later done all)) (left_place order reads))
    (λ left. inl (0, first, refl, left))
    (cases_Bool (is_among order first))
  where
    later : is_among order first ≡ true → ((place read : ℕ) → slice_get reads place ≡ Some (Some read) → is_among order read ≡ true)
        → (place read : ℕ) → slice_get (Some first ∷ reads) place ≡ Some (Some read) → is_among order read ≡ true
    later done all zero read at = ap (is_among order) (sym (same_Some first read (same_Some (Some first) (Some read) at))) ∙ done
    later done all (suc place) read at = all place read at

module _ (graph : Graph) (within : StaysWithin graph) where
  abbrev Circle : Type 0
  Circle = (numbers : List ℕ) × IsNumberCircle graph numbers

  -- a number that isn't in the order, while all that it reads is
  record IsNext (order : List ℕ) (number : ℕ) : Type 0 where
    counts : graph.counts number ≡ true
    left : is_among order number ≡ false
    kids : (place read : ℕ) → ReadsAt graph number place read → is_among order read ≡ true

  -- an order of some
  record IsPart (order : List ℕ) : Type 0 where
    counted : (number : ℕ) → is_among order number ≡ true → graph.counts number ≡ true
    once : IsDistinct eqb order
    behind : IsBehind graph order

  -- numbers that are left, of which each reads the next
  record IsReadingChain (order stack : List ℕ) (last : ℕ) : Type 0 where
    counted : (number : ℕ) → is_among (stack ++ last ∷ []) number ≡ true → graph.counts number ≡ true
    once : IsDistinct eqb (stack ++ last ∷ [])
    leads : IsReadChain graph (stack ++ last ∷ [])
    left : is_among order last ≡ false

  walk_short : (order stack : List ℕ) (last : ℕ) → IsReadingChain order stack last → length stack + 1 ≤ graph.count
  walk_short order stack last along = omega (arith, length-append stack (last ∷ []), once_short (stack ++ last ∷ []) graph.count along.once (λ number among. within.below number (along.counted number among)))

  -- a walk ends at a number that may come next, or closes a circle, or goes on
  step : (order stack : List ℕ) (last : ℕ) → IsReadingChain order stack last
      → (Circle ⊎ ((number : ℕ) × IsNext order number)) ⊎ ((next : ℕ) × IsReadingChain order (stack ++ last ∷ []) next)
  step order stack last along = ⊎_elim
      (λ found. ⊎_elim
      (λ met. inl (inl (round_from found.1 stack ++ last ∷ [], closes graph stack last found.1 along.once along.leads (found.0, found.2) met along.counted)))
      (λ new. inr (found.1, on found.1 new found.3 (found.0, found.2)))
      (cases_Bool (is_among (stack ++ last ∷ []) found.1)))
      (λ kids. inl (inr (last, record { counts = along.counted last (among_last stack last); left = along.left; kids = kids })))
      (left_place order (graph.reads last))
    where
      on : (next : ℕ) → is_among (stack ++ last ∷ []) next ≡ false → is_among order next ≡ false → Reads graph last next
          → IsReadingChain order (stack ++ last ∷ []) next
      on next new left reads = record {
        counted = λ number among. ⊎_elim (λ old. along.counted number old) (λ top. ap graph.counts (sym (among_one next number top)) ∙ within.read last reads.0 next (along.counted last (among_last stack last)) reads.1) (among_either (stack ++ last ∷ []) (next ∷ []) number among);
        once = once_push (stack ++ last ∷ []) next along.once new;
        leads = IsReadChain-push graph stack last next along.leads reads;
        left = left;
      }

  walk : (steps : ℕ) (order stack : List ℕ) (last : ℕ) → graph.count ≤ length stack + steps → IsReadingChain order stack last
      → Circle ⊎ ((number : ℕ) × IsNext order number)
  walk zero order stack last far along = absurd (omega (arith, far, walk_short order stack last along))
  walk (suc steps) order stack last far along =
      ⊎_elim (λ ended. ended) (λ further. walk steps order (stack ++ last ∷ []) further.0 (omega (arith, far, length-append stack (last ∷ []))) further.1) (step order stack last along)

  -- a walk begins anywhere
  begun : (order : List ℕ) (first : ℕ) → graph.counts first ≡ true → is_among order first ≡ false → IsReadingChain order [] first
  begun order first counts left = record {
    counted = λ number among. ap graph.counts (sym (among_one first number among)) ∙ counts;
    once = once_push [] first once_none refl;
    leads = tt;
    left = left;
  }

  -- an order with the next one
  longer : (order : List ℕ) (next : ℕ) → IsPart order → IsNext order next → IsPart (order ++ next ∷ [])
  longer order next part is = record {
    counted = λ number among. ⊎_elim (λ old. part.counted number old) (λ last. ap graph.counts (sym (among_one next number last)) ∙ is.counts) (among_either order (next ∷ []) number among);
    once = once_push order next part.once is.left;
    behind = behind_more graph order next part.behind is.kids;
  }

  part_short : (order : List ℕ) → IsPart order → length order ≤ graph.count
  part_short order part = once_short order graph.count part.once (λ number among. within.below number (part.counted number among))

  -- an order is whole, or there is a circle, or the order grows
  grown : (order : List ℕ) → IsPart order → (Circle ⊎ ((numbers : List ℕ) × IsNumberOrder graph numbers)) ⊎ ((next : ℕ) × IsPart (order ++ next ∷ []))
  grown order part = ⊎_elim
      (λ found.
      let parts = and_parts (graph.counts found.0) (not (is_among order found.0)) found.2 in
      ⊎_elim (λ circle. inl (inl circle)) (λ next. inr (next.0, longer order next.0 part next.1))
      (walk graph.count order [] found.0 (omega arith) (begun order found.0 parts.0 (not-true (is_among order found.0) parts.1))))
      (λ none. inl (inr (
        order,
        record {
          all = λ number starts.
              let counts = within.started number starts in
              whole (is_among order number) (ap (λ (b : Bool). b && not (is_among order number)) (sym counts) ∙ none number (within.below number counts));
          counted = part.counted;
          once = part.once;
          behind = part.behind;
        },
      )))
      (below (λ (number : ℕ). graph.counts number && not (is_among order number)) graph.count)
    where
      whole : (b : Bool) → (true && not b) ≡ false → b ≡ true
      whole true is = refl
      whole false is = absurd (true≢false is)

  grow : (steps : ℕ) (order : List ℕ) → graph.count ≤ length order + steps → IsPart order → Circle ⊎ ((numbers : List ℕ) × IsNumberOrder graph numbers)
  grow zero order far part =
      ⊎_elim (λ ended. ended) (λ further. absurd (omega (arith, far, length-append order (further.0 ∷ []), part_short (order ++ further.0 ∷ []) further.1))) (grown order part)
  grow (suc steps) order far part =
      ⊎_elim (λ ended. ended) (λ further. grow steps (order ++ further.0 ∷ []) (omega (arith, far, length-append order (further.0 ∷ []))) further.1) (grown order part)

  pub order_or_circle : ((order : List ℕ) × IsNumberOrder graph order) ⊎ ((numbers : List ℕ) × IsNumberCircle graph numbers × BeginsWithLeast numbers)
  order_or_circle = ⊎_elim (λ circle. inr (has_least graph circle.0 circle.1)) (λ order. inl order) (grow graph.count [] (omega arith) (record { counted = λ number among. absurd (true≢false (sym among)); once = once_none; behind = λ i place other before. absurd (omega arith) }))
