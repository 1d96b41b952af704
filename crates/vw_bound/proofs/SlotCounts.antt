-- How many hops of a sound plan can arrive over the pins of some links, from one microcycle on up to another.
use Rattle.std.proofs.Common.{◌≡◌, ◌<◌, ◌≤◌, ◌+◌, ◌-◌, ◌*◌, ◌&&◌, ◌==◌, ℕ, zero, suc, Bool, true, false, List, [], ◌∷◌, slice_get, Some, nat_le, nat_lt, eqb, cond, ap, refl, sym, ◌∙◌, ◌⊎◌, inl, inr, ⊎_elim, eqb-true, eq-eqb, lt-ltb, arith}
use Rattle.std.specs.List.{count_by, list_any}
use Rattle.std.proofs.Math.Nat.{suc-mul, add-mul}
use Rattle.std.proofs.lemmas.Bool.{and_from, and_left, and_parts, cases_Bool, cases_lt, leb-true, ltb-true, or_cases}
use Rattle.std.proofs.lemmas.List.Sums.{sum_by-cons}
use Rattle.vw_plan.specs.declared.board.Board.{Board}
use Rattle.vw_plan.specs.declared.link.Link.{Link}
use Rattle.vw_plan.specs.declared.wire.Hop.{Hop}
use Rattle.vw_plan.specs.Lead.{arrival, carries}
use Rattle.vw_plan.specs.Sound.{share_pin}
use Rattle.vw_plan.proofs.LinkDelays.{arrives}
use Rattle.vw_bound.specs.Pins.{pins_of}
use Rattle.vw_bound.proofs.Counting.{count_none, count_split}

module _ (board : Board) (hops : List Hop) (once : (hop : Hop) → count_by (share_pin hop) hops ≤ 1) where
  -- one past the arrival of a hop is one of some microcycles
  abbrev pub arrives_in : ℕ → ℕ → Hop → Bool
  arrives_in from count hop = nat_le from (arrival board.links hop + 1) && nat_lt (arrival board.links hop + 1) (from + count)

  -- ---- one pin

  module _ (number : ℕ) (link : Link) (there : slice_get board.links number ≡ Some link) where
    abbrev over_pin : ℕ → Hop → Bool
    over_pin pin hop = carries hop link && hop.pin == pin

    slot_counts : (pin from count : ℕ) → count_by (λ hop. over_pin pin hop && arrives_in from count hop) hops ≤ count
    slot_counts pin from zero = omega (arith, count_none (λ (hop : Hop). over_pin pin hop && arrives_in from 0 hop) hops none) where
      none : (hop : Hop) → (over_pin pin hop && arrives_in from 0 hop) ≡ false
      none hop = ⊎_elim (λ is. absurd (no hop is)) (λ is. is) (cases_Bool (over_pin pin hop && arrives_in from 0 hop)) where
        no : (hop : Hop) → (over_pin pin hop && arrives_in from 0 hop) ≡ true → ⊥
        no hop is =
            let late = and_parts (nat_le from (arrival board.links hop + 1)) (nat_lt (arrival board.links hop + 1) (from + 0)) (and_parts (over_pin pin hop) (arrives_in from 0 hop) is).1 in
            omega (arith, leb-true from (arrival board.links hop + 1) late.0, ltb-true (arrival board.links hop + 1) (from + 0) late.1)
    slot_counts pin from (suc count) =
        let last : Hop = record { from = link.from; to = link.to; pin = pin; at = from + count - link.delay } in
        let split = count_split (λ hop. over_pin pin hop && arrives_in from (suc count) hop) (share_pin last) (λ hop. over_pin pin hop && arrives_in from count hop) hops (one_or_other pin from count) in
        omega (arith, split, once last, slot_counts pin from count)
      where
        one_or_other : (pin from count : ℕ) (hop : Hop) → (over_pin pin hop && arrives_in from (suc count) hop) ≡ true
            → (share_pin (record { from = link.from; to = link.to; pin = pin; at = from + count - link.delay }) hop ≡ true) ⊎ ((over_pin pin hop && arrives_in from count hop) ≡ true)
        one_or_other pin from count hop is =
            let time = arrival board.links hop + 1 in
            let last : Hop = record { from = link.from; to = link.to; pin = pin; at = from + count - link.delay } in
            let Goal = (share_pin last hop ≡ true) ⊎ ((over_pin pin hop && arrives_in from count hop) ≡ true) in
            let parts = and_parts (over_pin pin hop) (arrives_in from (suc count) hop) is in
            let on = and_parts (carries hop link) (eqb hop.pin pin) parts.0 in
            let when = and_parts (nat_le from time) (nat_lt time (from + suc count)) parts.1 in
            let above : time < from + suc count = ltb-true time (from + suc count) when.1 in
            let if_before = λ (before : time < from + count). let got : Goal = inr (and_from (over_pin pin hop) (arrives_in from count hop) parts.0 (and_from (nat_le from time) (nat_lt time (from + count)) when.0 (lt-ltb time (from + count) before))) in got in
            let if_last = λ (late : from + count ≤ time).
            let comes : time ≡ hop.at + link.delay = arrives board number link hop there on.0 in
            let at : from + count - link.delay ≡ hop.at = omega (arith, comes, late, above) in
            let got : Goal = inl (and_from (link.from == hop.from && link.to == hop.to) (eqb pin hop.pin && eqb (from + count - link.delay) hop.at) on.0 (and_from (eqb pin hop.pin) (eqb (from + count - link.delay) hop.at) (eq-eqb pin hop.pin (sym (eqb-true hop.pin pin on.1))) (eq-eqb (from + count - link.delay) hop.at at))) in got in
            ⊎_elim if_before if_last (cases_lt time (from + count))

    -- ---- the pins of one link

    abbrev pub over_pins : ℕ → Hop → Bool
    over_pins pins hop = carries hop link && nat_lt hop.pin pins

    pin_counts : (pins from count : ℕ) → count_by (λ hop. over_pins pins hop && arrives_in from count hop) hops ≤ pins * count
    pin_counts zero from count = omega (arith, count_none (λ (hop : Hop). over_pins 0 hop && arrives_in from count hop) hops none) where
      none : (hop : Hop) → (over_pins 0 hop && arrives_in from count hop) ≡ false
      none hop = ⊎_elim (λ is. absurd (no hop is)) (λ is. is) (cases_Bool (over_pins 0 hop && arrives_in from count hop)) where
        no : (hop : Hop) → (over_pins 0 hop && arrives_in from count hop) ≡ true → ⊥
        no hop is =
            let on = and_parts (carries hop link) (nat_lt hop.pin 0) (and_parts (over_pins 0 hop) (arrives_in from count hop) is).0 in
            omega (arith, ltb-true hop.pin 0 on.1)
    pin_counts (suc pins) from count =
        let split = count_split (λ hop. over_pins (suc pins) hop && arrives_in from count hop) (λ hop. over_pin pins hop && arrives_in from count hop) (λ hop. over_pins pins hop && arrives_in from count hop) hops (one_or_other pins from count) in
        omega (arith, split, slot_counts pins from count, pin_counts pins from count, suc-mul pins count)
      where
        one_or_other : (pins from count : ℕ) (hop : Hop) → (over_pins (suc pins) hop && arrives_in from count hop) ≡ true
            → ((over_pin pins hop && arrives_in from count hop) ≡ true) ⊎ ((over_pins pins hop && arrives_in from count hop) ≡ true)
        one_or_other pins from count hop is =
            let Goal = ((over_pin pins hop && arrives_in from count hop) ≡ true) ⊎ ((over_pins pins hop && arrives_in from count hop) ≡ true) in
            let parts = and_parts (over_pins (suc pins) hop) (arrives_in from count hop) is in
            let on = and_parts (carries hop link) (nat_lt hop.pin (suc pins)) parts.0 in
            let below : hop.pin < suc pins = ltb-true hop.pin (suc pins) on.1 in
            let if_below = λ (less : hop.pin < pins). let got : Goal = inr (and_from (over_pins pins hop) (arrives_in from count hop) (and_from (carries hop link) (nat_lt hop.pin pins) on.0 (lt-ltb hop.pin pins less)) parts.1) in got in
            let if_last = λ (more : pins ≤ hop.pin). let same : hop.pin ≡ pins = omega (arith, below, more) in let got : Goal = inl (and_from (over_pin pins hop) (arrives_in from count hop) (and_from (carries hop link) (eqb hop.pin pins) on.0 (eq-eqb hop.pin pins same)) parts.1) in got in
            ⊎_elim if_below if_last (cases_lt hop.pin pins)

  -- ---- the pins of some links

  module _ (over : Link → Bool) where
    -- a hop goes over one of some links that pass a test, on one of its pins
    abbrev pub over_links : List Link → Hop → Bool
    over_links links hop = list_any (λ link. over link && (carries hop link && nat_lt hop.pin link.width)) links

    link_counts : (links : List Link) (from count : ℕ) → ((place : ℕ) (link : Link) → slice_get links place ≡ Some link → (number : ℕ) × (slice_get board.links number ≡ Some link))
        → count_by (λ hop. over_links links hop && arrives_in from count hop) hops ≤ pins_of links over * count
    link_counts [] from count are = omega (arith, count_none (λ (hop : Hop). false && arrives_in from count hop) hops (λ hop. and_left false (arrives_in from count hop) refl))
    link_counts (link ∷ links) from count are =
        let rest = link_counts links from count (λ place other at. are (suc place) other at) in
        let its = are 0 link refl in
        let first = pin_counts its.0 link its.1 link.width from count in
        let split = count_split (λ hop. over_links (link ∷ links) hop && arrives_in from count hop) (λ hop. (over link && (carries hop link && nat_lt hop.pin link.width)) && arrives_in from count hop) (λ hop. over_links links hop && arrives_in from count hop) hops one_or_other in
        let pins = if_over (over link) in
        let all : pins_of (link ∷ links) over ≡ cond (over link) link.width 0 + pins_of links over = sum_by-cons (λ (other : Link). cond (over other) other.width 0) link links in
        let product : pins_of (link ∷ links) over * count ≡ cond (over link) link.width 0 * count + pins_of links over * count = ap (λ (number : ℕ). number * count) all ∙ add-mul (cond (over link) link.width 0) (pins_of links over) count in
        omega (arith, rest, split, product, pins first)
      where
        one_or_other : (hop : Hop) → (over_links (link ∷ links) hop && arrives_in from count hop) ≡ true
            → (((over link && (carries hop link && nat_lt hop.pin link.width)) && arrives_in from count hop) ≡ true) ⊎ ((over_links links hop && arrives_in from count hop) ≡ true)
        one_or_other hop is =
            let here = over link && (carries hop link && nat_lt hop.pin link.width) in
            let parts = and_parts (over_links (link ∷ links) hop) (arrives_in from count hop) is in
            ⊎_elim (λ first. inl (and_from here (arrives_in from count hop) first parts.1)) (λ later. inr (and_from (over_links links hop) (arrives_in from count hop) later parts.1)) (or_cases here (over_links links hop) parts.0)

        if_over : (passes : Bool) → count_by (λ hop. (carries hop link && nat_lt hop.pin link.width) && arrives_in from count hop) hops ≤ link.width * count
            → count_by (λ hop. (passes && (carries hop link && nat_lt hop.pin link.width)) && arrives_in from count hop) hops ≤ cond passes link.width 0 * count
        if_over true few = few
        if_over false few = omega (arith, count_none (λ (hop : Hop). (false && (carries hop link && nat_lt hop.pin link.width)) && arrives_in from count hop) hops (λ hop. and_left (false && (carries hop link && nat_lt hop.pin link.width)) (arrives_in from count hop) (and_left false (carries hop link && nat_lt hop.pin link.width) refl)))

    -- so many, at most
    pub board_counts : (from count : ℕ) → count_by (λ hop. over_links board.links hop && arrives_in from count hop) hops ≤ pins_of board.links over * count
    board_counts from count = link_counts board.links from count (λ place link at. (place, at))
