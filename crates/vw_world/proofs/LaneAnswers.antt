-- What a put and a take at the links of a world answer.
use Rattle.std.proofs.Common.{◌≡◌, ◌<◌, ◌+◌, ◌^◌, ℕ, Bool, length, get_or, set, nat_lt, sym, subst, ◌∙◌, Option, arith}
use Rattle.std.proofs.lemmas.List.{get_or_default}
use Rattle.std.proofs.lemmas.Option.{slice_get_within}
use Rattle.vw_prog.specs.declared.word.Word.{Word}
use Rattle.vw_prog.specs.Ends.{IsExpected, IsNextWord, Puts, Takes}
use Rattle.vw_world.specs.Lanes.{AreLanes, SeenLane, SeenLanes, ends_of, lane_at}
use Rattle.vw_world.proofs.LaneSets.{IsAfterTake, after_put, put_counts, put_done, take_counts, take_done}

-- the links in memory, as the call finds them, and the lane that it turns to
module _ (all now : SeenLanes) (view_is : all ≡ now) (are : AreLanes all) (link : ℕ) (lane : SeenLane) (at : lane ≡ get_or all.lanes link lane) where
  -- the links with another state of this one
  abbrev with_lane : SeenLane → SeenLanes
  with_lane new = record all { lanes = set all.lanes link new }

  found : link < length all.lanes → lane_at all.lanes link ≡ lane
  found within = get_or_default all.lanes link _ lane within ∙ sym at

  module _ (word : Word) (next : IsNextWord (ends_of now) link word) where
    own_next : IsNextWord (ends_of all) link word
    own_next = subst (λ (one : SeenLanes). IsNextWord (ends_of one) link word) (sym view_is) next

    within : link < length all.lanes
    within = omega (arith, slice_get_within all.job.checked.board.links link own_next.leaves.0 own_next.leaves.1, are.count)

    pub put_fits : lane.sent + 1 < 2 ^ 64
    put_fits = subst (λ (one : SeenLane). one.sent + 1 < 2 ^ 64) (found within) (put_counts all are link within word own_next)

    -- by the lane before, all keep what they have to, and the ends say that the put was made, or that it was refused
    abbrev PutDone : Bool → SeenLane → SeenLane → SeenLanes → Type 0
    PutDone answer new before seen = answer ≡ nat_lt (length before.words) before.room → new ≡ after_put word answer before
        → AreLanes (with_lane new) × Puts link (ends_of seen) (ends_of (with_lane new)) answer

    pub put_is : (answer : Bool) (new : SeenLane) → PutDone answer new lane now
    put_is answer new =
        let done = subst (λ (before : SeenLane). PutDone answer new before all) (found within) (put_done all are link within word own_next answer new) in
        subst (λ (seen : SeenLanes). PutDone answer new lane seen) view_is done

  module _ (expected : IsExpected (ends_of now) link) where
    own_expected : IsExpected (ends_of all) link
    own_expected = subst (λ (one : SeenLanes). IsExpected (ends_of one) link) (sym view_is) expected

    inside : link < length all.lanes
    inside = omega (arith, slice_get_within all.job.checked.board.links link own_expected.reaches.0 own_expected.reaches.1, are.count)

    pub take_fits : lane.taken + 1 < 2 ^ 64
    take_fits = subst (λ (one : SeenLane). one.taken + 1 < 2 ^ 64) (found inside) (take_counts all are link inside own_expected)

    -- by the lane before, all keep what they have to, and the ends say what was taken
    abbrev TakeDone : Option Word → SeenLane → SeenLane → SeenLanes → Type 0
    TakeDone answer new before seen = IsAfterTake answer before new
        → AreLanes (with_lane new) × Takes link (ends_of seen) (ends_of (with_lane new)) answer

    pub take_is : (answer : Option Word) (new : SeenLane) → TakeDone answer new lane now
    take_is answer new =
        let done = subst (λ (before : SeenLane). TakeDone answer new before all) (found inside) (take_done all are link inside own_expected answer new) in
        subst (λ (seen : SeenLanes). TakeDone answer new lane seen) view_is done
