-- The places of gates that there is no room for.
use Rattle.std.proofs.Common.{◌≡◌, ◌≤◌, ◌<◌, ◌+◌, ◌-◌, ℕ, zero, suc, Bool, true, false, List, [], ◌∷◌, length, drop, get_or, slice_get, nat_le, ap, sym, refl, ◌∙◌, get_or-drop, length-drop, arith}
use Rattle.std.proofs.lemmas.List.{drop-drop, drop_all, drop_more}
use Rattle.vw_net.specs.declared.cell.Cell.{Cell}
use Rattle.vw_net.specs.Order.{gate_inputs}
use Rattle.vw_sim.specs.Steps.Tables.{wide_places}

-- whether there is room for the nets of the gate with a number
abbrev pub fits : ℕ → List Cell → ℕ → Bool
fits room cells number = nat_le (length (gate_inputs (slice_get cells number))) room

-- in a list of gates there is room for so many, then comes one of those that are listed, and the rest is listed behind it
record IsAhead (room : ℕ) (cells : List Cell) (made : ℕ) (left : List ℕ) (place : ℕ) (rest : List ℕ) : Type 0 where
  ahead : ℕ
  is : place ≡ made + ahead
  within : ahead < length left
  narrow : (k : ℕ) → k < ahead → fits room cells (get_or left k 0) ≡ true
  rest_is : rest ≡ wide_places room cells (place + 1) (drop (ahead + 1) left)

abbrev head_of : List ℕ → ℕ
head_of [] = 0
head_of (place ∷ places) = place

abbrev tail_of : List ℕ → List ℕ
tail_of [] = []
tail_of (place ∷ places) = places

ahead_of : (room : ℕ) (cells : List Cell) (made : ℕ) (left : List ℕ) (place : ℕ) (rest : List ℕ) → wide_places room cells made left ≡ place ∷ rest → IsAhead room cells made left place rest
ahead_of room cells made [] place rest is = absurd (omega (arith, ap length is))
ahead_of room cells made (number ∷ left) place rest is = by (fits room cells number) refl (ahead_of room cells (made + 1) left place rest) where
  all_narrow : fits room cells number ≡ true → (ahead : ℕ) → ((k : ℕ) → k < ahead → fits room cells (get_or left k 0) ≡ true) → (k : ℕ) → k < suc ahead → fits room cells (get_or (number ∷ left) k 0) ≡ true
  all_narrow narrow ahead later zero low = narrow
  all_narrow narrow ahead later (suc k) low = later k (omega (arith, low))

  by : (narrow : Bool) → fits room cells number ≡ narrow → (wide_places room cells (made + 1) left ≡ place ∷ rest → IsAhead room cells (made + 1) left place rest) → IsAhead room cells made (number ∷ left) place rest
  by true narrow later =
      let found = later (rw narrow at is) in
      let next : suc found.ahead + 1 ≡ suc (found.ahead + 1) = omega arith in
      record {
        ahead = suc found.ahead;
        is = omega (arith, found.is);
        within = omega (arith, found.within);
        narrow = all_narrow narrow found.ahead found.narrow;
        rest_is = found.rest_is ∙ ap (λ (n : ℕ). wide_places room cells (place + 1) (drop n (number ∷ left))) (sym next);
      }
  by false wide later =
      let here : made ∷ wide_places room cells (made + 1) left ≡ place ∷ rest = rw wide at is in
      let its : made ≡ place = ap head_of here in
      record {
        ahead = 0;
        is = omega (arith, its);
        within = omega arith;
        narrow = λ k low. absurd (omega (arith, low));
        rest_is = sym (ap tail_of here) ∙ ap (λ (at : ℕ). wide_places room cells (at + 1) left) its;
      }

-- where none is listed, there is room for all
none_ahead : (room : ℕ) (cells : List Cell) (made : ℕ) (left : List ℕ) → wide_places room cells made left ≡ [] → (k : ℕ) → k < length left → fits room cells (get_or left k 0) ≡ true
none_ahead room cells made [] is k low = absurd (omega (arith, low))
none_ahead room cells made (number ∷ left) is k low = by (fits room cells number) refl (none_ahead room cells (made + 1) left) k low where
  by : (narrow : Bool) → fits room cells number ≡ narrow → (wide_places room cells (made + 1) left ≡ [] → (k : ℕ) → k < length left → fits room cells (get_or left k 0) ≡ true) → (k : ℕ) → k < length (number ∷ left) → fits room cells (get_or (number ∷ left) k 0) ≡ true
  by true narrow later zero low = narrow
  by true narrow later (suc k) low = later (rw narrow at is) k (omega (arith, low))
  by false wide later k low =
      let here : made ∷ wide_places room cells (made + 1) left ≡ [] = rw wide at is in
      absurd (omega (arith, ap length here))

-- where so many gates of an order are made, the next of the places that are left is the next at which there is no room
pub record IsNextWide (room : ℕ) (cells : List Cell) (order : List ℕ) (made place : ℕ) (rest : List ℕ) : Type 0 where
  pub from : made ≤ place
  pub within : place < length order
  pub narrow : (k : ℕ) → k < place - made → fits room cells (get_or order (made + k) 0) ≡ true
  pub rest_is : rest ≡ wide_places room cells (place + 1) (drop (place + 1) order)

next_wide : (room : ℕ) (cells : List Cell) (order : List ℕ) (made place : ℕ) (rest : List ℕ) → wide_places room cells made (drop made order) ≡ place ∷ rest → IsNextWide room cells order made place rest
next_wide room cells order made place rest is =
    let found = ahead_of room cells made (drop made order) place rest is in
    let further : drop (found.ahead + 1) (drop made order) ≡ drop (place + 1) order = drop-drop (found.ahead + 1) made order ∙ ap (λ (n : ℕ). drop n order) (omega (arith, found.is)) in
    record {
      from = omega (arith, found.is);
      within = omega (arith, found.is, found.within, length-drop made order);
      narrow = λ k low. ap (fits room cells) (sym (get_or-drop made order k 0)) ∙ found.narrow k (omega (arith, found.is, low));
      rest_is = found.rest_is ∙ ap (wide_places room cells (place + 1)) further;
    }

no_wide : (room : ℕ) (cells : List Cell) (order : List ℕ) (made : ℕ) → wide_places room cells made (drop made order) ≡ [] → (k : ℕ) → k < length order - made → fits room cells (get_or order (made + k) 0) ≡ true
no_wide room cells order made is k low = ap (fits room cells) (sym (get_or-drop made order k 0)) ∙ none_ahead room cells made (drop made order) is k (omega (arith, low, length-drop made order))

-- where the places from one on are those that are left
pub next_at : (room : ℕ) (cells : List Cell) (order wide : List ℕ) (made i : ℕ) → i < length wide → wide_places room cells made (drop made order) ≡ drop i wide → IsNextWide room cells order made (get_or wide i 0) (drop (i + 1) wide)
next_at room cells order wide made i low left = next_wide room cells order made (get_or wide i 0) (drop (i + 1) wide) (left ∙ drop_more wide i 0 low)

pub none_at : (room : ℕ) (cells : List Cell) (order wide : List ℕ) (made i : ℕ) → length wide ≤ i → wide_places room cells made (drop made order) ≡ drop i wide → (k : ℕ) → k < length order - made → fits room cells (get_or order (made + k) 0) ≡ true
none_at room cells order wide made i past left = no_wide room cells order made (left ∙ drop_all i wide past)
