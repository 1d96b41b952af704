-- One inlet more that presses.
use Rattle.std.proofs.Common.{◌≡◌, ◌<◌, ◌≤◌, ◌+◌, ◌-◌, ◌*◌, ◌/◌, ℕ, suc, true, List, [], ◌∷◌, length, max, min, slice_index, refl, subst, ⊎_elim, arith}
use Rattle.std.specs.List.{AllByRecursion}
use Rattle.std.proofs.lemmas.Bool.{cases_lt}
use Rattle.std.proofs.Math.Nat.{mul-div-le, mul-le-mul_left}
use Rattle.vw_short_bound.specs.Steps.Pressed.{Climbs, IsChosen, IsPressSoFar}
use Rattle.vw_short_bound.specs.Steps.Rows.{has}

-- a number of places that pins have room for ends no sooner than they fill whole microcycles
ends_late : (pins from others end : ℕ) → 1 ≤ pins → suc others ≤ pins * (end + 1 - from) → from + others / pins ≤ end
ends_late pins from others end some room = ⊎_elim if_late if_fits (cases_lt end from) where
  if_late : end < from → from + others / pins ≤ end
  if_late late =
      let none : end + 1 - from ≡ 0 = omega (arith, late) in
      let no : suc others ≤ pins * 0 = subst (λ (slots : ℕ). suc others ≤ pins * slots) none room in
      absurd (omega (arith, no))

  if_fits : from ≤ end → from + others / pins ≤ end
  if_fits fits =
      let slots : end + 1 - from ≡ suc (end - from) = omega (arith, fits) in
      let few : others < pins * suc (end - from) = subst (λ (count : ℕ). suc others ≤ pins * count) slots room in
      let quotient : others / pins < suc (end - from) = ⊎_elim (λ less. less) (λ more. absurd (omega (arith, few, mul-le-mul_left pins more, mul-div-le others pins))) (cases_lt (others / pins) (suc (end - from))) in
      omega (arith, quotient, fits)

module _ (times row members : List ℕ) where
  -- what is not before a microcycle is not before an earlier one
  sooner : (from other : ℕ) (places : List ℕ) → other ≤ from → AllByRecursion (IsChosen times row members from) places → AllByRecursion (IsChosen times row members other) places
  sooner from other [] before all = tt
  sooner from other (place ∷ places) before all =
      let late = all.0.late in
      (record { within = all.0.within; rests = all.0.rests; member = all.0.member; late = omega (arith, late, before) }, sooner from other places before all.1)

  climbs_lower : (low high : ℕ) (places : List ℕ) → low ≤ high → Climbs high places → Climbs low places
  climbs_lower low high [] more climbs = tt
  climbs_lower low high (place ∷ places) more climbs = (omega (arith, more, climbs.0), climbs.1)

  module _ (pins : ℕ) where
    -- a place that isn't chosen
    pub press_same : (left count from least : ℕ) → IsPressSoFar times row members pins (suc left) count from least → IsPressSoFar times row members pins left count from least
    press_same left count from least so_far = record {
      places = so_far.places;
      climbs = climbs_lower left (suc left) so_far.places (omega arith) so_far.climbs;
      are = so_far.are;
      many = so_far.many;
      forced = so_far.forced;
    }

    -- one that is
    pub press_more : (left count from least sooner_from more next : ℕ) → 1 ≤ pins → left < length times → has row left ≡ true → has members left ≡ true
        → sooner_from ≡ min from (slice_index times left) → more ≡ max least (sooner_from + count / pins) → next ≡ count + 1
        → IsPressSoFar times row members pins (suc left) count from least → IsPressSoFar times row members pins left next sooner_from more
    press_more left count from least sooner_from more next some within rests member is_from is_more is_next so_far =
        let places : List ℕ = left ∷ so_far.places in
        let climbs : Climbs left places = (omega arith, so_far.climbs) in
        let own : IsChosen times row members sooner_from left = record { within = within; rests = rests; member = member; late = omega (arith, is_from) } in
        let are : AllByRecursion (IsChosen times row members sooner_from) places = (own, sooner from sooner_from so_far.places (omega (arith, is_from)) so_far.are) in
        let many = so_far.many in
        let long : length places ≡ suc count = omega (arith, many) in
        record {
          places = places;
          climbs = climbs;
          are = are;
          many = omega (arith, many, is_next);
          forced = λ end have.
              let room : suc count ≤ pins * (end + 1 - sooner_from) = subst (λ (n : ℕ). n ≤ pins * (end + 1 - sooner_from)) long (have places sooner_from (climbs_lower 0 left places (omega arith) climbs) are) in
              omega (arith, is_more, so_far.forced end have, ends_late pins sooner_from count end some room);
        }

    pub press_first : (from left : ℕ) → IsPressSoFar times row members pins left 0 from 0
    press_first from left = record { places = []; climbs = tt; are = tt; many = refl; forced = λ end have. omega arith }
