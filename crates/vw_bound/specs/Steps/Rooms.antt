-- How many times fit over pins.
use Rattle.std.specs.Prelude.{◌≤◌, ◌<◌, ◌==◌, ◌+◌, ◌-◌, ◌*◌, ℕ, List, length, map, slice_index}
use Rattle.std.specs.List.{filter}
use Rattle.vw_plan.specs.declared.need.Need.{Need}
use Rattle.vw_bound.specs.PlacedDesigns.{PlacedDesign}
use Rattle.vw_bound.specs.Pins.{PairsFit, late_pairs, pins_into}
use Rattle.vw_bound.specs.Times.{there_by}

-- in a period of this many microcycles, pins have room for times that rise: from each on, for all that are left
abbrev pub HaveRoom : ℕ → List ℕ → ℕ → Type 0
HaveRoom pins times period = (place : ℕ) → place < length times → length times - place ≤ pins * (period + 1 - slice_index times place)

-- and in no shorter one
pub record IsLeastRoom (pins : ℕ) (times : List ℕ) (period : ℕ) : Type 0 where
  pub room : HaveRoom pins times period
  pub least : (other : ℕ) → HaveRoom pins times other → period ≤ other

-- the same for the times before a place
pub record IsRoomSoFar (pins : ℕ) (times : List ℕ) (place period : ℕ) : Type 0 where
  pub room : (at : ℕ) → at < place → length times - at ≤ pins * (period + 1 - slice_index times at)
  pub least : (other : ℕ) → HaveRoom pins times other → period ≤ other

-- when each of the pairs of a node is there, by numbers of nets
abbrev pub times_at : PlacedDesign → (ℕ → ℕ) → ℕ → List Need → List ℕ
times_at placed soon_of node needs = map (λ need. there_by placed soon_of need.net need.to) (filter (λ need. need.to == node) needs)

-- the pins of a node have room for its pairs in a period
abbrev pub NodeFits : PlacedDesign → ℕ → ℕ → Type 0
NodeFits placed period node = (from : ℕ) → late_pairs placed node from ≤ pins_into placed.board.links node * (period + 1 - from)

-- and in no shorter one
pub record IsLeastPeriodAt (placed : PlacedDesign) (node period : ℕ) : Type 0 where
  pub fits : NodeFits placed period node
  pub least : (other : ℕ) → NodeFits placed other node → period ≤ other

-- the same for all nodes before one
pub record FitsSoFar (placed : PlacedDesign) (place period : ℕ) : Type 0 where
  pub fits : (node : ℕ) → node < place → NodeFits placed period node
  pub least : (other : ℕ) → PairsFit placed other → period ≤ other

-- the same for all nodes
pub record IsLeastFit (placed : PlacedDesign) (period : ℕ) : Type 0 where
  pub fits : PairsFit placed period
  pub least : (other : ℕ) → PairsFit placed other → period ≤ other
