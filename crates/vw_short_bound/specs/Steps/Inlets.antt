-- The inlets of nodes, and the rows of what nets rest on.
use Rattle.std.specs.Prelude.{◌≡◌, ◌≤◌, ◌<◌, ◌+◌, ◌^◌, ℕ, List, [], length, map, slice_get, slice_index, slice_index_or, Some, IsTrue}
use Rattle.std.specs.List.{All}
use Rattle.vw_net.specs.Lists.{greatest}
use Rattle.vw_plan.specs.declared.link.Link.{Link}
use Rattle.vw_plan.specs.declared.need.Need.{Need}
use Rattle.vw_plan.specs.Lead.{brought_at, lead}
use Rattle.vw_plan.specs.Nets.{greatest_read}
use Rattle.vw_bound.specs.PlacedDesigns.{PlacedDesign, flat_of}
use Rattle.vw_short_bound.specs.declared.inlets.Inlet.{Inlet}
use Rattle.vw_short_bound.specs.declared.inlets.Class.{Class}
use Rattle.vw_short_bound.specs.declared.inlets.Inlets.{Inlets}
use Rattle.vw_short_bound.specs.Shortest.{can_be_last}
use Rattle.vw_short_bound.specs.Steps.Plans.{AreInlets, InPlans, IsSoonest, RestsOn}
use Rattle.vw_short_bound.specs.Steps.Pressed.{IsClass}
use Rattle.vw_short_bound.specs.Steps.Rows.{has}

-- the pairs of inlets of a node
abbrev pub inlet_pairs : ℕ → List Inlet → List Need
inlet_pairs node inlets = map (λ inlet. record { net = inlet.net; to = node }) inlets

-- their nets
abbrev pub inlet_nets : List Inlet → List ℕ
inlet_nets inlets = map (λ inlet. inlet.net) inlets

-- the links that can be last from a node can be last from another
abbrev pub IsCovered : PlacedDesign → ℕ → ℕ → ℕ → Type 0
IsCovered placed node source home = (number : ℕ) (link : Link) → slice_get placed.board.links number ≡ Some link
    → IsTrue (can_be_last placed.board home node link) → IsTrue (can_be_last placed.board source node link)

-- a class of inlets of a node, by the struct
abbrev pub IsClassOf : PlacedDesign → ℕ → List ℕ → Class → Type 0
IsClassOf placed node nets class = IsClass placed node nets class.members class.source class.pins

-- the inlets of a node with classes of them
pub record AreInletsOf (placed : PlacedDesign) (node : ℕ) (own : Inlets) : Type 0 where
  pub needed : AreInlets placed node own.nets
  pub each : All (IsClassOf placed node own.nets) own.classes

-- the nets of the inlets of a node, by its number
abbrev pub nets_at : List Inlets → ℕ → List ℕ
nets_at tables node = slice_index_or (map (λ inlets. inlets.nets) tables) node []

-- one for each node
pub record AreTables (placed : PlacedDesign) (tables : List Inlets) : Type 0 where
  pub each : length tables ≡ placed.board.chips + 1
  pub of : (node : ℕ) (inlets : Inlets) → slice_get tables node ≡ Some inlets → AreInletsOf placed node inlets

-- those of the nodes before one
pub record TablesSoFar (placed : PlacedDesign) (place : ℕ) (tables : List Inlets) : Type 0 where
  pub each : length tables ≡ place
  pub of : (node : ℕ) (inlets : Inlets) → slice_get tables node ≡ Some inlets → AreInletsOf placed node inlets

-- each row has only inlets of its cell's node that the cell's net rests on
abbrev pub AreRows : PlacedDesign → List Inlets → List (List ℕ) → Type 0
AreRows placed tables rows = (number : ℕ) → RestsOn placed (slice_index placed.chip_of number) (nets_at tables (slice_index placed.chip_of number)) (slice_index_or rows number []) ((flat_of placed).inputs + number)

-- a row has only inlets that some nets wait for at a node
abbrev pub RowWaits : PlacedDesign → ℕ → List ℕ → List ℕ → List ℕ → Type 0
RowWaits placed node nets row ins = (place : ℕ) → IsTrue (has row place) → place < length nets
    → InPlans placed (λ planned. brought_at planned node (slice_index nets place) ≤ greatest (map (lead planned node) ins))

-- an inlet of a node comes no later than a net is there
abbrev pub ReadWaits : PlacedDesign → ℕ → List ℕ → ℕ → ℕ → Type 0
ReadWaits placed node nets read place = place < length nets → InPlans placed (λ planned. brought_at planned node (slice_index nets place) ≤ lead planned node read)

-- a gate of a number reads these nets
abbrev pub IsGateOf : PlacedDesign → ℕ → List ℕ → Type 0
IsGateOf placed number ins = (number_of : ℕ → ℕ) → greatest_read number_of (slice_get (flat_of placed).cells number) ≡ greatest (map number_of ins)

-- a period of a sound plan with shortest wires isn't below a number
abbrev pub IsBelowPeriods : PlacedDesign → ℕ → Type 0
IsBelowPeriods placed number = InPlans placed (λ planned. number ≤ planned.plan.period)

-- what is worked out of a gate: when its net can have its value, and the inlets that it waits for
pub record IsWorkedOut (placed : PlacedDesign) (tables : List Inlets) (number time : ℕ) (row : List ℕ) : Type 0 where
  pub low : time ≤ 2 ^ 62
  pub soonest : IsSoonest placed ((flat_of placed).inputs + number) time
  pub rests : RestsOn placed (slice_index placed.chip_of number) (nets_at tables (slice_index placed.chip_of number)) row ((flat_of placed).inputs + number)

-- rows that are all empty
pub record AreEmpty (count : ℕ) (rows : List (List ℕ)) : Type 0 where
  pub long : length rows ≡ count
  pub each : (number : ℕ) → slice_index_or rows number [] ≡ []
