-- The pins of nodes, and what has to come over them. Source: the pins of a chip limit what it can take in one clock.
use Rattle.std.specs.Prelude.{◌≤◌, ◌==◌, ◌+◌, ◌-◌, ◌*◌, ◌&&◌, ℕ, Bool, List, count_by, sum_by, nat_le, if◌then◌else◌}
use Rattle.vw_plan.specs.declared.link.Link.{Link}
use Rattle.vw_plan.specs.Needs.{needed_pairs}
use Rattle.vw_bound.specs.PlacedDesigns.{PlacedDesign, flat_of}
use Rattle.vw_bound.specs.Times.{there}

-- the pins of links that pass a test
abbrev pub pins_of : List Link → (Link → Bool) → ℕ
pins_of links over = sum_by (λ link. if over link then link.width else 0) links

-- the pins of links that lead to a node
abbrev pub pins_into : List Link → ℕ → ℕ
pins_into links node = pins_of links (λ link. link.to == node)

-- how many needed pairs of a node can't be there before a microcycle
abbrev pub late_pairs : PlacedDesign → ℕ → ℕ → ℕ
late_pairs placed node from = count_by (λ need. need.to == node && nat_le from (there placed need.net need.to)) (needed_pairs (flat_of placed) placed.chip_of)

-- in a period of this many microcycles, the pins of each node have room for its pairs from each microcycle on
abbrev pub PairsFit : PlacedDesign → ℕ → Type 0
PairsFit placed period = (node from : ℕ) → late_pairs placed node from ≤ pins_into placed.board.links node * (period + 1 - from)
