-- Inlets that press on pins, by their places.
use Rattle.std.specs.Prelude.{◌≡◌, ◌≤◌, ◌<◌, ◌+◌, ◌-◌, ◌*◌, ℕ, suc, List, [], ◌∷◌, length, slice_get, slice_index, Some, IsTrue}
use Rattle.std.specs.List.{AllByRecursion}
use Rattle.vw_plan.specs.declared.link.Link.{Link}
use Rattle.vw_bound.specs.PlacedDesigns.{PlacedDesign, home_in}
use Rattle.vw_bound.specs.Pins.{pins_of}
use Rattle.vw_short_bound.specs.Shortest.{can_be_last}
use Rattle.vw_short_bound.specs.Steps.Rows.{has}

-- numbers that rise, from a number on
abbrev pub Climbs : ℕ → List ℕ → Type 0
Climbs from [] = Unit {0}
Climbs from (place ∷ places) = (from ≤ place) × Climbs (suc place) places

-- a place has its bit in two rows, and its time is not before a microcycle
pub record IsChosen (times row members : List ℕ) (from place : ℕ) : Type 0 where
  pub within : place < length times
  pub rests : IsTrue (has row place)
  pub member : IsTrue (has members place)
  pub late : from ≤ slice_index times place

-- pins have room for all such places, up to a microcycle
abbrev pub HaveSlots : List ℕ → List ℕ → List ℕ → ℕ → ℕ → Type 0
HaveSlots times row members pins end = (places : List ℕ) (from : ℕ) → Climbs 0 places → AllByRecursion (IsChosen times row members from) places
    → length places ≤ pins * (end + 1 - from)

-- what the places from one on have shown
pub record IsPressSoFar (times row members : List ℕ) (pins left count from least : ℕ) : Type 0 where
  pub places : List ℕ
  pub climbs : Climbs left places
  pub are : AllByRecursion (IsChosen times row members from) places
  pub many : length places ≡ count
  pub forced : (end : ℕ) → HaveSlots times row members pins end → least ≤ end

-- the links that can be last for each member of a class can be last for its source, and these are their pins
pub record IsClass (placed : PlacedDesign) (node : ℕ) (nets members : List ℕ) (source pins : ℕ) : Type 0 where
  pub links : (place : ℕ) → IsTrue (has members place) → place < length nets → (number : ℕ) (link : Link) → slice_get placed.board.links number ≡ Some link
      → IsTrue (can_be_last placed.board (home_in placed (slice_index nets place)) node link) → IsTrue (can_be_last placed.board source node link)
  pub are : pins ≡ pins_of placed.board.links (can_be_last placed.board source node)
