-- Times that rise, and how many of them are left from each on.
use Rattle.std.proofs.Common.{◌≡◌, ◌<◌, ◌≤◌, ◌+◌, ◌-◌, ◌*◌, ◌/◌, ◌&&◌, ◌==◌, ℕ, zero, suc, false, List, [], ◌∷◌, length, max, get_or, slice_index, nat_le, eqb, ap, refl, sym, subst, ◌∙◌, ⊎_elim, le-leb, All, arith}
use Rattle.std.specs.List.{count_by, filter}
use Rattle.std.specs.List.Sorted.{IsNonDecreasingBy, IsPermutation}
use Rattle.std.proofs.Math.Nat.{lt-mul-div-succ, mul-div-le, mul-le-mul_left}
use Rattle.std.proofs.lemmas.Bool.{and_left, cases_Bool, cases_lt, leb-true, ne_eqb}
use Rattle.std.proofs.lemmas.List.Elements.{All-head, All-tail}
use Rattle.std.proofs.lemmas.List.Sums.{count_by-le-length}
use Rattle.std.proofs.lemmas.List.Sorted.{sum_by-IsPermutation}
use Rattle.vw_net.specs.Steps.Bits.{one_if}
use Rattle.vw_net.proofs.CountsOverLists.{count_cons, count_filter, count_map, count_sum}
use Rattle.vw_plan.specs.declared.need.Need.{Need}
use Rattle.vw_plan.specs.Needs.{needed_pairs}
use Rattle.vw_bound.specs.PlacedDesigns.{PlacedDesign, flat_of}
use Rattle.vw_bound.specs.Pins.{PairsFit, late_pairs, pins_into}
use Rattle.vw_bound.specs.Times.{soon, there}
use Rattle.vw_bound.proofs.ListedNeeds.{needs_on_board}
use Rattle.vw_bound.specs.Steps.Rooms.{FitsSoFar, HaveRoom, IsLeastFit, IsLeastPeriodAt, IsLeastRoom, IsRoomSoFar, NodeFits, times_at}

-- ---- one time more

-- n times that are not before t, over p pins
div_room : (pins time others : ℕ) → 1 ≤ pins → suc others ≤ pins * (time + others / pins + 1 - time)
div_room pins time others some =
    let slots : time + others / pins + 1 - time ≡ others / pins + 1 = omega arith in
    let room : others < pins * (others / pins + 1) = lt-mul-div-succ others some in
    rw slots room

room_div : (pins time others period : ℕ) → 1 ≤ pins → suc others ≤ pins * (period + 1 - time) → time + others / pins ≤ period
room_div pins time others period some room = ⊎_elim if_late if_fits (cases_lt period time) where
  if_late : period < time → time + others / pins ≤ period
  if_late late =
      let none : period + 1 - time ≡ 0 = omega (arith, late) in
      let no : suc others ≤ pins * 0 = subst (λ (slots : ℕ). suc others ≤ pins * slots) none room in
      absurd (omega (arith, no))

  if_fits : time ≤ period → time + others / pins ≤ period
  if_fits fits =
      let slots : period + 1 - time ≡ suc (period - time) = omega (arith, fits) in
      let few : others < pins * suc (period - time) = subst (λ (count : ℕ). suc others ≤ pins * count) slots room in
      let quotient : others / pins < suc (period - time) = div_lt others pins (suc (period - time)) some few in
      omega (arith, quotient, fits)
    where
      div_lt : (n d q : ℕ) → 1 ≤ d → n < d * q → n / d < q
      div_lt n d q positive below = ⊎_elim (λ less. less) (λ more. absurd (omega (arith, below, mul-le-mul_left d more, mul-div-le n d))) (cases_lt (n / d) q)

module _ (pins : ℕ) (times : List ℕ) (some : 1 ≤ pins) where
  pub room_next : (place others time least more : ℕ) → place < length times → time ≡ slice_index times place → others ≡ length times - place - 1
      → more ≡ max least (time + others / pins) → IsRoomSoFar pins times place least → IsRoomSoFar pins times (place + 1) more
  room_next place others time least more within is_time is_others is_more so_far = record { room = room; least = least_of } where
    count : length times - place ≡ suc others
    count = omega (arith, within, is_others)

    room : (at : ℕ) → at < place + 1 → length times - at ≤ pins * (more + 1 - slice_index times at)
    room at below = ⊎_elim if_before if_here (cases_lt at place) where
      if_before : at < place → length times - at ≤ pins * (more + 1 - slice_index times at)
      if_before before =
          let longer : least + 1 - slice_index times at ≤ more + 1 - slice_index times at = omega (arith, is_more) in
          omega (arith, so_far.room at before, mul-le-mul_left pins longer)

      if_here : place ≤ at → length times - at ≤ pins * (more + 1 - slice_index times at)
      if_here past =
          let same : at ≡ place = omega (arith, below, past) in
          let when : slice_index times at ≡ time = ap (slice_index times) same ∙ sym is_time in
          let longer : time + others / pins + 1 - time ≤ more + 1 - slice_index times at = omega (arith, is_more, when) in
          omega (arith, count, same, div_room pins time others some, mul-le-mul_left pins longer)

    least_of : (other : ℕ) → HaveRoom pins times other → more ≤ other
    least_of other have =
        let here : suc others ≤ pins * (other + 1 - time) = rw (sym count, is_time) (have place within) in
        omega (arith, is_more, so_far.least other have, room_div pins time others other some here)

-- ---- times that rise

-- where each time has room, as many as aren't before a microcycle have room from it on
pub room_counts : (pins period : ℕ) (times : List ℕ) → HaveRoom pins times period → (from : ℕ) → count_by (λ time. nat_le from time) times ≤ pins * (period + 1 - from)
room_counts pins period [] have from = omega arith
room_counts pins period (time ∷ times) have from =
    let late = λ (one : ℕ). nat_le from one in
    let Goal = count_by late (time ∷ times) ≤ pins * (period + 1 - from) in
    let rest : HaveRoom pins times period = λ place within. let left : suc (length times) - suc place ≡ length times - place = omega arith in subst (λ (many : ℕ). many ≤ pins * (period + 1 - slice_index times place)) left (have (suc place) (omega (arith, within))) in
    let later = room_counts pins period times rest from in
    let if_first = λ (early : time < from).
    let no : late time ≡ false = ⊎_elim (λ is. absurd (omega (arith, early, leb-true from time is))) (λ is. is) (cases_Bool (late time)) in
    let got : Goal = omega (arith, count_cons late time times, ap one_if no, later) in got in
    let if_later = λ (after : from ≤ time).
    let longer : period + 1 - time ≤ period + 1 - from = omega (arith, after) in
    let all = have 0 (omega arith) in
    let got : Goal = omega (arith, count_by-le-length late (time ∷ times), all, mul-le-mul_left pins longer) in got in
    ⊎_elim if_first if_later (cases_lt time from)

-- where no time is before one, all are counted
all_late : (time : ℕ) (xs : List ℕ) → ((at default : ℕ) → at < length xs → time ≤ get_or xs at default) → length xs ≤ count_by (λ one. nat_le time one) xs
all_late time [] late = omega arith
all_late time (x ∷ xs) late = omega (arith, count_cons (λ one. nat_le time one) x xs, ap one_if (le-leb time x (late 0 0 (omega arith))), all_late time xs (λ at default inside. late (suc at) default (omega (arith, inside))))

-- from each time on, as many aren't before it as are left
left_late : (times : List ℕ) → IsNonDecreasingBy (λ time. time) times → (place : ℕ) → place < length times → length times - place ≤ count_by (λ time. nat_le (slice_index times place) time) times
left_late [] rises place within = absurd (omega (arith, within))
left_late (time ∷ times) rises zero within = omega (arith, all_late time (time ∷ times) (λ at default inside. rises 0 at default (omega arith) inside))
left_late (time ∷ times) rises (suc place) within =
    let rest = left_late times (λ i j d before inside. rises (suc i) (suc j) d (omega (arith, before)) (omega (arith, inside))) place (omega (arith, within)) in
    omega (arith, count_cons (λ one. nat_le (slice_index times place) one) time times, rest)

pub counts_room : (pins period : ℕ) (times : List ℕ) → IsNonDecreasingBy (λ time. time) times → ((from : ℕ) → count_by (λ time. nat_le from time) times ≤ pins * (period + 1 - from)) → HaveRoom pins times period
counts_room pins period times rises fits place within = omega (arith, left_late times rises place within, fits (slice_index times place))

-- ---- pairs of nodes

module _ (placed : PlacedDesign) (node : ℕ) where
  -- as many pairs are late as times
  late_times : (from : ℕ) → late_pairs placed node from ≡ count_by (λ time. nat_le from time) (times_at placed (soon placed) node (needed_pairs (flat_of placed) placed.chip_of))
  late_times from =
      let needs = needed_pairs (flat_of placed) placed.chip_of in
      let time_of = λ (need : Need). there placed need.net need.to in
      sym (count_map (λ time. nat_le from time) time_of (filter (λ need. need.to == node) needs) ∙ count_filter (λ need. nat_le from (time_of need)) (λ need. need.to == node) needs)

  -- so where these times have room, the pairs fit
  pub least_at : (times sorted : List ℕ) (period : ℕ) → times ≡ times_at placed (soon placed) node (needed_pairs (flat_of placed) placed.chip_of) → IsPermutation times sorted → IsNonDecreasingBy (λ time. time) sorted
      → IsLeastRoom (pins_into placed.board.links node) sorted period → IsLeastPeriodAt placed node period
  least_at times sorted period are moved rises room = record { fits = fits; least = least } where
    pins : ℕ
    pins = pins_into placed.board.links node

    as_many : (from : ℕ) → count_by (λ time. nat_le from time) sorted ≡ late_pairs placed node from
    as_many from =
        let late = λ (time : ℕ). nat_le from time in
        count_sum late sorted ∙ sum_by-IsPermutation (λ time. one_if (late time)) times sorted moved ∙ sym (count_sum late times) ∙ ap (count_by late) are ∙ sym (late_times from)

    fits : NodeFits placed period node
    fits from = omega (arith, as_many from, room_counts (pins_into placed.board.links node) period sorted room.room from)

    least : (other : ℕ) → NodeFits placed other node → period ≤ other
    least other others = room.least other (counts_room (pins_into placed.board.links node) other sorted rises (λ from. omega (arith, as_many from, others from)))

-- ---- all nodes

-- pairs that fit in a period fit in a longer one
pub fits_longer : (placed : PlacedDesign) (one other : ℕ) → one ≤ other → PairsFit placed one → PairsFit placed other
fits_longer placed one other more fits node from =
    let longer : one + 1 - from ≤ other + 1 - from = omega (arith, more) in
    omega (arith, fits node from, mul-le-mul_left (pins_into placed.board.links node) longer)

module _ (placed : PlacedDesign) where
  pub node_next : (place least own more : ℕ) → IsLeastPeriodAt placed place own → more ≡ max least own → FitsSoFar placed place least → FitsSoFar placed (place + 1) more
  node_next place least own more here is so_far = record { fits = fits; least = λ other all. omega (arith, is, so_far.least other all, here.least other (all place)) } where
    wider : (node from one other : ℕ) → one ≤ other → pins_into placed.board.links node * (one + 1 - from) ≤ pins_into placed.board.links node * (other + 1 - from)
    wider node from one other more = let longer : one + 1 - from ≤ other + 1 - from = omega (arith, more) in mul-le-mul_left (pins_into placed.board.links node) longer

    fits : (node : ℕ) → node < place + 1 → NodeFits placed more node
    fits node below from = ⊎_elim if_before if_here (cases_lt node place) where
      if_before : node < place → late_pairs placed node from ≤ pins_into placed.board.links node * (more + 1 - from)
      if_before before = omega (arith, so_far.fits node before from, wider node from least more (omega (arith, is)))

      if_here : place ≤ node → late_pairs placed node from ≤ pins_into placed.board.links node * (more + 1 - from)
      if_here past =
          let same : place ≡ node = omega (arith, below, past) in
          let own_fits : NodeFits placed own node = subst (NodeFits placed own) same here.fits in
          omega (arith, own_fits from, wider node from own more (omega (arith, is)))

  -- past the last node no pair is needed
  no_pairs : All (λ chip. chip ≤ placed.board.chips) placed.chip_of → (node from : ℕ) → placed.board.chips < node → late_pairs placed node from ≡ 0
  no_pairs low node from past = none_of (needed_pairs (flat_of placed) placed.chip_of) (needs_on_board (flat_of placed) placed.chip_of placed.board.chips low) where
    none_of : (needs : List Need) → All (λ need. need.to ≤ placed.board.chips) needs → count_by (λ need. need.to == node && nat_le from (there placed need.net need.to)) needs ≡ 0
    none_of [] on = refl
    none_of (need ∷ needs) on =
        let test = λ (one : Need). one.to == node && nat_le from (there placed one.net one.to) in
        let near : need.to ≤ placed.board.chips = All-head (λ (one : Need). one.to ≤ placed.board.chips) need needs on in
        let no : test need ≡ false = and_left (eqb need.to node) (nat_le from (there placed need.net need.to)) (ne_eqb need.to node (λ same. omega (arith, same, near, past))) in
        omega (arith, count_cons test need needs, ap one_if no, none_of needs (All-tail (λ (one : Need). one.to ≤ placed.board.chips) need needs on))

  pub all_fit : (place least : ℕ) → All (λ chip. chip ≤ placed.board.chips) placed.chip_of → placed.board.chips < place → FitsSoFar placed place least → IsLeastFit placed least
  all_fit place least low whole so_far = record {
    fits = λ node from. ⊎_elim (λ inside. so_far.fits node inside from) (λ past. omega (arith, no_pairs low node from (omega (arith, whole, past)))) (cases_lt node place);
    least = so_far.least;
  }
