-- A slot is taken.
use Rattle.std.proofs.Common.{◌≡◌, ◌<◌, ◌≤◌, ◌+◌, ◌-◌, ◌==◌, ◌&&◌, ◌++◌, ℕ, Bool, true, false, cond, nat_lt, List, [], ◌∷◌, length, slice_index, if◌then◌else◌, refl, ◌∙◌, ap, sym, subst, arith, length-append}
use Rattle.std.specs.HashMap as hash
use Rattle.std.proofs.lemmas.Bool.{lt-ltb, le-ltb, false≢true}
use Rattle.vw_slots.specs.declared.slot.Taken.{Taken}
use Rattle.vw_slots.specs.Slots.{Slots, is_pin_taken, IsFull, IsFirstFree}
use Rattle.vw_slots.specs.Steps.PinUses.{PinUses, is_same, used_of, next_microcycle, used_at, next_at, AreBusy, IsChained}
use Rattle.vw_slots.specs.Steps.Tables.{IsPinUseTable}
use Rattle.vw_slots.proofs.WrittenPinUses.{same_key}
use Rattle.vw_slots.proofs.Chained.{filled_chained}
use Rattle.vw_slots.proofs.TakenSlots.{as_many_taken, taken_more}

-- what a table of slots is made of, and that it fits together
pub record KeptTable : Type 0 where
  pub widths : List ℕ
  pub taken : List Taken
  pub capacity : ℕ
  pub pin_uses : PinUses
  pub spare : ℕ
  pub kept : IsPinUseTable widths taken capacity pin_uses spare

-- the order of the entries doesn't count
module _ (table : KeptTable) (after : PinUses) (same : (key : ℕ × ℕ) → hash.get is_same after key ≡ hash.get is_same table.pin_uses key) where
  used_again : (one other : ℕ) → used_at after one other ≡ used_at table.pin_uses one other
  used_again one other = ap used_of (same (one, other))

  next_again : (one other : ℕ) → next_at after one other ≡ next_at table.pin_uses one other
  next_again one other = ap (next_microcycle other) (same (one, other))

  pub reordered_table : (capacity spare : ℕ) → spare ≤ hash.spare after → length table.taken + spare ≤ capacity
      → IsPinUseTable table.widths table.taken capacity after spare
  reordered_table capacity spare places room = record {
    wide = table.kept.wide;
    chained = filled_chained table.widths table.pin_uses after table.kept.chained (λ one other. omega (arith, used_again one other)) next_again;
    used = λ one pin other. table.kept.used one pin other ∙ ap (λ (n : ℕ). nat_lt pin n) (sym (used_again one other));
    within = λ one other. subst (λ (n : ℕ). n ≤ slice_index table.widths one) (sym (used_again one other)) (table.kept.within one other);
    places = places;
    room = room;
  }

-- a microcycle is the first one, not before a given one, in which a pin of a link of the table is free
pub record IsFirstOpen (table : KeptTable) (link not_before at : ℕ) : Type 0 where
  pub linked : link < length table.widths
  pub in_time : not_before ≤ at
  pub busy : AreBusy table.widths table.pin_uses link not_before at
  pub free : used_at table.pin_uses link at < slice_index table.widths link

-- a pin of a link is taken as the next one in a microcycle, from pin uses that may be chained anew before
pub record TakesPin (table : KeptTable) (link at pin : ℕ) (middle after : PinUses) : Type 0 where
  pub as_many : (one other : ℕ) → used_at middle one other ≡ used_at table.pin_uses one other
  pub chained : IsChained table.widths middle
  pub as_spare : hash.spare middle ≡ hash.spare table.pin_uses
  pub pin_is : pin ≡ used_at middle link at
  pub used : (one other : ℕ) → used_at after one other
      ≡ (if link == one && at == other then used_at middle link at + 1 else used_at middle one other)
  pub nexts : (one other : ℕ) → next_at after one other ≡ next_at middle one other
  pub spare : hash.spare middle ≤ hash.spare after + 1

module _ (table : KeptTable) (link not_before at : ℕ) (first : IsFirstOpen table link not_before at) where
  -- how many pins the link has
  abbrev width : ℕ
  width = slice_index table.widths link

  some_pins : (1 ≤ width) × (width ≤ 64)
  some_pins = table.kept.wide link 0 first.linked

  -- a full microcycle has a taken pin, so not more are full than slots are taken
  pub soon : at ≤ not_before + length table.taken
  soon =
      let counted : at - not_before ≤ length table.taken = as_many_taken table.taken link not_before (at - not_before) first_pin in
      omega (arith, first.in_time) where
        first_pin : (early : ℕ) → not_before ≤ early → early < not_before + (at - not_before) → is_pin_taken table.taken link 0 early ≡ true
        first_pin early past before =
            let full : width ≤ used_at table.pin_uses link early = first.busy early past (omega (arith, first.in_time)) in
            table.kept.used link 0 early ∙ lt-ltb 0 (used_at table.pin_uses link early) (omega (arith, some_pins))

  -- few pins are taken in one microcycle
  pub few_used : used_at table.pin_uses link at + 1 ≤ 64
  few_used = omega (arith, some_pins, first.free)

  -- the slot is the first free one
  module _ (slots : Slots) (widths_are : slots.widths ≡ table.widths) (taken_are : slots.taken ≡ table.taken) where
    is_taken : (pin other : ℕ) → is_pin_taken slots.taken link pin other ≡ nat_lt pin (used_at table.pin_uses link other)
    is_taken pin other = ap (λ (taken : List Taken). is_pin_taken taken link pin other) taken_are ∙ table.kept.used link pin other

    pub first_free_is : (pin : ℕ) → pin ≡ used_at table.pin_uses link at → IsFirstFree slots link not_before (record { pin = pin; at = at })
    first_free_is pin pin_is = record {
      in_time = first.in_time;
      within = rw widths_are (omega (arith, pin_is, first.free));
      free = λ again. false≢true (sym (le-ltb pin (used_at table.pin_uses link at) (omega (arith, pin_is))) ∙ sym (is_taken pin at) ∙ again);
      full_before = full_before;
      taken_below = λ other below. is_taken other at ∙ lt-ltb other (used_at table.pin_uses link at) (omega (arith, pin_is, below));
    } where
      full_before : (early : ℕ) → not_before ≤ early → early < at → IsFull slots link early
      full_before early past before other below =
          let on_link : other < width = subst (λ (widths : List ℕ). other < slice_index widths link) widths_are below in
          let full : width ≤ used_at table.pin_uses link early = first.busy early past before in
          is_taken other early ∙ lt-ltb other (used_at table.pin_uses link early) (omega arith)

  module _ (pin : ℕ) (middle after : PinUses) (takes : TakesPin table link at pin middle after) where
    -- the slot that is taken
    abbrev slot : Taken
    slot = record { link = link; pin = pin; at = at }

    by_case : (b : Bool) (mine others : ℕ) (P : ℕ → Type 0) → (b ≡ true → P mine) → P others → P (cond b mine others)
    by_case true mine others P if_mine if_others = if_mine refl
    by_case false mine others P if_mine if_others = if_others

    -- what holds of one more pin at the slot's link and microcycle, and else of those of before, holds of the taken pins
    of_used : (one other : ℕ) (P : ℕ → Type 0) → ((link == one && at == other) ≡ true → P (used_at middle link at + 1))
        → P (used_at middle one other) → P (used_at after one other)
    of_used one other P if_here if_there =
        let case = by_case (link == one && at == other) (used_at middle link at + 1) (used_at middle one other) P if_here if_there in
        subst P (sym (takes.used one other)) case

    more : (one other : ℕ) → used_at middle one other ≤ used_at after one other
    more one other = of_used one other (λ n. used_at middle one other ≤ n) if_here (omega arith) where
      if_here : (link == one && at == other) ≡ true → used_at middle one other ≤ used_at middle link at + 1
      if_here here = omega (arith, same_key link at one other (used_at middle) here)

    -- the slot is counted
    counted : (one other_pin other : ℕ) → is_pin_taken (table.taken ++ slot ∷ []) one other_pin other ≡ nat_lt other_pin (used_at after one other)
    counted one other_pin other =
        let pin_at = λ (n : ℕ). nat_lt other_pin n in
        let others = used_at middle one other in
        let before = table.kept.used one other_pin other ∙ ap pin_at (sym (takes.as_many one other)) in
        let pin_here = λ (here : (link == one && at == other) ≡ true). takes.pin_is ∙ same_key link at one other (used_at middle) here in
        taken_more table.taken slot one other_pin other others before pin_here
        ∙ ap (λ (n : ℕ). nat_lt other_pin (if link == one && at == other then n + 1 else others)) takes.pin_is
        ∙ ap pin_at (sym (takes.used one other))

    still_within : (one other : ℕ) → used_at after one other ≤ slice_index table.widths one
    still_within one other = of_used one other (λ n. n ≤ slice_index table.widths one) if_here if_there where
      if_here : (link == one && at == other) ≡ true → used_at middle link at + 1 ≤ slice_index table.widths one
      if_here here = omega (arith, first.free, takes.as_many link at, same_key link at one other (λ l a. slice_index table.widths l) here)

      if_there : used_at middle one other ≤ slice_index table.widths one
      if_there = omega (arith, takes.as_many one other, table.kept.within one other)

    -- what the table keeps, it keeps with the slot
    pub taken_table : (capacity : ℕ) → table.capacity ≤ capacity → 1 ≤ table.spare
        → IsPinUseTable table.widths (table.taken ++ slot ∷ []) capacity after (table.spare - 1)
    taken_table capacity large some = record {
      wide = table.kept.wide;
      chained = filled_chained table.widths middle after takes.chained more takes.nexts;
      used = counted;
      within = still_within;
      places = omega (arith, table.kept.places, takes.as_spare, takes.spare);
      room = omega (arith, table.kept.room, large, some, length-append table.taken (slot ∷ []));
    }
