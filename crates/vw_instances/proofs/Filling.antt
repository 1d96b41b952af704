-- Counts that are filled in along an order of the models.
use Rattle.std.proofs.Common.{◌≡◌, ◌<◌, ◌≤◌, ◌+◌, ℕ, Bool, true, false, List, length, take, get_or, slice_get, slice_set, replicate, Option, Some, ⊎_elim, refl, sym, ◌∙◌, ap, eqb, min, get_or-set_other, get_or-set_same, arith}
use Rattle.std.proofs.lemmas.List.{length-replicate, take_all, get_or-take, length-take, length-set, get_or_default}
use Rattle.std.specs.List.{list_any}
use Rattle.std.proofs.lemmas.Bool.{cases_lt, eqb-true}
use Rattle.std.proofs.lemmas.Map.Keys.{IsDistinct-from_apart}
use Rattle.std.proofs.lemmas.Option.{slice_get_within, get_or_from_slice_get}
use Rattle.vw_net.specs.Order.{is_among}
use Rattle.vw_design.specs.declared.model.Model.{Model}
use Rattle.vw_design.specs.declared.design.Design.{Design}
use Rattle.vw_design.specs.Paths.{Word, Placing, placings, model_named, items_of}
use Rattle.vw_design.specs.ModelFaults.{has_model_name, is_reached, place_in_file}
use Rattle.vw_design.specs.ModelNumbers.{is_reached_model, has_number_among, IsModelOrder}
use Rattle.vw_design.proofs.ReachedFromRoot.{at_reached, model_is_named}
use Rattle.vw_design.proofs.ListElements.{Has, at-Has, all-Has, from-any, any-Has}
use Rattle.vw_design.proofs.Names.{equal_names}
use Rattle.vw_net.proofs.Orders.{among_at, at_among}
use Rattle.vw_order.proofs.Among.{front_position, once_short}
use Rattle.vw_models.proofs.NumbersInLists.{among_Has}
use Rattle.vw_design.proofs.ModelNumbers.{place_of_model, model_of_place, name_of_named, named_by}
use Rattle.vw_models.proofs.OrderedModels.{place_in_order, ranking}
use Rattle.vw_models.proofs.NumberedModels.{reached_within}
use Rattle.vw_instances.specs.declared.measure.Measure.{Measure}
use Rattle.vw_instances.specs.Steps.Counting.{most, amount, count_in, AreCounts, IsRanked}
use Rattle.vw_instances.proofs.ItemAmounts.{amount_same}

-- the counts of the first so many of an order are right
pub record IsFilled (design : Design) (order : List ℕ) (measure : Measure) (counts : List ℕ) (end : ℕ) : Type 0 where
  pub each : length counts ≡ length design.models
  pub filled : (k : ℕ) → k < end → get_or counts (get_or order k 0) 0 ≡ min most (amount measure (count_in design counts) (items_of (slice_get design.models (get_or order k 0))))

pub nothing_filled : (design : Design) (order : List ℕ) (measure : Measure) (counts : List ℕ) (count : ℕ) → counts ≡ replicate count 0 → count ≡ length design.models → IsFilled design order measure counts 0
nothing_filled design order measure counts count are each = record {
  each = ap (λ (l : List ℕ). length l) are ∙ length-replicate count 0 ∙ each;
  filled = λ k early. absurd (omega (arith, early));
}

module _ (design : Design) (order : List ℕ) (is_order : IsModelOrder design order) where
  -- the numbers are those of models
  among_within : (number : ℕ) → is_among order number ≡ true → number < length design.models
  among_within number among = reached_within design number (sym (is_order.each number) ∙ among)

  pub order_within : (i : ℕ) → i < length order → get_or order i 0 < length design.models
  order_within i inside = among_within (get_or order i 0) (at_among order i 0 inside)

  apart : (i j : ℕ) (d : ℕ) → i < j → j < length order → eqb (get_or order i d) (get_or order j d) ≡ false
  apart i j d before inside = by (eqb (get_or order i d) (get_or order j d)) refl where
    by : (b : Bool) → eqb (get_or order i d) (get_or order j d) ≡ b → b ≡ false
    by true is = absurd (is_order.once i j before inside
        (get_or_default order i 0 d (omega (arith, before, inside)) ∙ eqb-true (get_or order i d) (get_or order j d) is ∙ get_or_default order j d 0 inside))
    by false is = refl

  order_short : length order ≤ length design.models
  order_short = once_short order (length design.models) (IsDistinct-from_apart eqb order apart) among_within

  -- a name that is reached has a place in the order
  pub record IsOrdered (name : Word) : Type 0 where
    pub model : Model
    pub k : ℕ
    pub inside : k < length order
    pub number : get_or order k 0 ≡ place_in_file design name
    pub named : model_named design.models name ≡ Some model
    pub at : slice_get design.models (place_in_file design name) ≡ Some model

  pub ordered : (name : Word) → is_reached design name ≡ true → IsOrdered name
  ordered name reached =
      let at = at_reached design name reached in
      let named : model_named design.models name ≡ Some at.1 = ap (model_named design.models) (sym at.3) ∙ model_is_named design at.0 at.1 at.2 in
      let stands : slice_get design.models (place_in_file design name) ≡ Some at.1 = sym (model_of_place design name) ∙ named in
      let among : is_among order (place_in_file design name) ≡ true = is_order.each (place_in_file design name) ∙ ap (is_reached_model design) stands ∙ ap (is_reached design) at.3 ∙ reached in
      let place = among_at order (place_in_file design name) among in
      record { model = at.1; k = place.0; inside = place.1; number = place.2; named = named; at = stands }

  pub is_ranked : IsRanked design
  is_ranked = record { rank = place_in_order design order is_order; ranking = ranking design order is_order; low = low } where
    low : (name : Word) → is_reached design name ≡ true → place_in_order design order is_order name < length design.models
    low name reached =
        let place = ordered name reached in
        let among = at_among order place.k 0 place.inside in
        let passes : has_model_name name (slice_get design.models (get_or order place.k 0)) ≡ true =
        ap (λ (n : ℕ). has_model_name name (slice_get design.models n)) place.number ∙ ap (has_model_name name) place.at ∙ equal_names place.model.name name (name_of_named design name place.model place.named) in
        let any = any-Has (λ (n : ℕ). has_model_name name (slice_get design.models n)) (get_or order place.k 0) order (among_Has order (get_or order place.k 0) among) passes in
        let first : place_in_order design order is_order name < length order = front_position (λ (n : ℕ). has_model_name name (slice_get design.models n)) order (length order)
        (ap (λ (l : List ℕ). list_any (λ (n : ℕ). has_model_name name (slice_get design.models n)) l) (take_all (length order) order (omega arith)) ∙ any) in
        omega (arith, first, order_short)

  -- what stands at a place of the order places what stands before it
  placed_before : (k : ℕ) → k < length order → (placing : Placing) → Has placing (placings (items_of (slice_get design.models (get_or order k 0)))) → (j : ℕ) × (j < k) × (get_or order j 0 ≡ place_in_file design placing.model)
  placed_before k inside placing has =
      let known = all-Has (λ (p : Placing). has_number_among design (take k order) p.model) placing (placings (items_of (slice_get design.models (get_or order k 0)))) (is_order.behind k inside) has in
      let found = from-any (λ (n : ℕ). has_model_name placing.model (slice_get design.models n)) (take k order) known in
      let model = named_by placing.model (slice_get design.models found.0) found.2 in
      let place = at-Has found.0 (take k order) found.1 in
      let short = slice_get_within (take k order) place.0 found.0 place.1 in
      let early : place.0 < k = omega (arith, short, length-take k order, inside) in (
        place.0,
        early,
        sym (get_or-take k order place.0 0 early) ∙ get_or_from_slice_get (take k order) place.0 found.0 0 place.1
            ∙ sym (place_of_model design found.0 model.0 model.1) ∙ ap (place_in_file design) model.2,
      )

  module _ (measure : Measure) (counts : List ℕ) where
    -- one more
    pub filled_more : (i : ℕ) → i < length order → IsFilled design order measure counts i → (count : ℕ) → count ≡ min most (amount measure (count_in design counts) (items_of (slice_get design.models (get_or order i 0))))
        → IsFilled design order measure (slice_set counts (get_or order i 0) count) (i + 1)
    filled_more i inside far count is = record {
      each = length-set counts (get_or order i 0) count ∙ far.each;
      filled = λ k early. now k early ∙ ap (min most) (sym (same k early));
    } where
      same : (k : ℕ) → k < i + 1 → amount measure (count_in design (slice_set counts (get_or order i 0) count)) (items_of (slice_get design.models (get_or order k 0))) ≡ amount measure (count_in design counts) (items_of (slice_get design.models (get_or order k 0)))
      same k early = amount_same (count_in design (slice_set counts (get_or order i 0) count)) (count_in design counts) measure (items_of (slice_get design.models (get_or order k 0)))
          (λ placing has.
          let before = placed_before k (omega (arith, early, inside)) placing has in
          get_or-set_other counts (get_or order i 0) (place_in_file design placing.model) count 0
          (λ same. is_order.once before.0 i (omega (arith, before.1, early)) inside (before.2 ∙ same)))

      now : (k : ℕ) → k < i + 1 → get_or (slice_set counts (get_or order i 0) count) (get_or order k 0) 0 ≡ min most (amount measure (count_in design counts) (items_of (slice_get design.models (get_or order k 0))))
      now k early = ⊎_elim
          (λ earlier. get_or-set_other counts (get_or order i 0) (get_or order k 0) count 0 (is_order.once k i earlier inside) ∙ far.filled k earlier)
          (λ later.
          let last : k ≡ i = omega (arith, early, later) in
          ap (λ (n : ℕ). get_or (slice_set counts (get_or order i 0) count) (get_or order n 0) 0) last
          ∙ get_or-set_same counts (get_or order i 0) count 0 (omega (arith, far.each, order_within i inside))
          ∙ is ∙ ap (λ (n : ℕ). min most (amount measure (count_in design counts) (items_of (slice_get design.models (get_or order n 0))))) (sym last))
          (cases_lt k i)

    -- all
    pub all_filled : (end : ℕ) → length order ≤ end → IsFilled design order measure counts end → AreCounts design measure counts
    all_filled end past far = record {
      each = far.each;
      counted = λ name reached.
          let place = ordered name reached in
          ap (λ (n : ℕ). get_or counts n 0) (sym place.number)
          ∙ far.filled place.k (omega (arith, place.inside, past))
          ∙ ap (λ (n : ℕ). min most (amount measure (count_in design counts) (items_of (slice_get design.models n)))) place.number
          ∙ ap (λ (m : Option Model). min most (amount measure (count_in design counts) (items_of m))) (place.at ∙ sym place.named);
    }
