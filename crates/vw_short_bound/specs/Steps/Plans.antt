-- What holds in each sound plan with shortest wires.
use Rattle.std.specs.Prelude.{◌≡◌, ◌≤◌, ◌<◌, ℕ, List, length, map, count_by, slice_index, IsTrue}
use Rattle.vw_plan.specs.declared.need.Need.{Need}
use Rattle.vw_plan.specs.Good.{AreShort}
use Rattle.vw_plan.specs.Lead.{brought_at, lead}
use Rattle.vw_plan.specs.Needs.{is_pair, needed_pairs}
use Rattle.vw_plan.specs.PlannedBoard.{PlannedBoard, home}
use Rattle.vw_plan.specs.Sound.{IsSound}
use Rattle.vw_bound.specs.PlacedDesigns.{PlacedDesign, flat_of, placed_by}
use Rattle.vw_bound.specs.Tables.{AreLow}
use Rattle.vw_short_bound.specs.Steps.Rows.{has}

abbrev pub InPlans : PlacedDesign → (PlannedBoard → Type 0) → Type 0
InPlans placed P = (planned : PlannedBoard) → placed_by planned ≡ placed → IsSound planned → AreShort planned → P planned

-- a net's lead at its own node isn't below a number
abbrev pub IsSoonest : PlacedDesign → ℕ → ℕ → Type 0
IsSoonest placed net number = InPlans placed (λ planned. number ≤ lead planned (home planned net) net)

-- a table has such numbers
pub record AreSoonest (placed : PlacedDesign) (table : List ℕ) : Type 0 where
  pub low : AreLow table
  pub each : (net : ℕ) → IsSoonest placed net (slice_index table net)

-- the pairs of some nets and a node
abbrev pub pairs_at : ℕ → List ℕ → List Need
pairs_at node nets = map (λ net. record { net = net; to = node }) nets

-- each of them is needed, and stands once
abbrev pub AreInlets : PlacedDesign → ℕ → List ℕ → Type 0
AreInlets placed node nets = (net to : ℕ) → count_by (is_pair net to) (pairs_at node nets) ≤ count_by (is_pair net to) (needed_pairs (flat_of placed) placed.chip_of)

-- the net of a cell rests on these inlets of its node: it has its value no sooner than they are there
abbrev pub RestsOn : PlacedDesign → ℕ → List ℕ → List ℕ → ℕ → Type 0
RestsOn placed node nets row net = (place : ℕ) → IsTrue (has row place) → place < length nets
    → InPlans placed (λ planned. brought_at planned node (slice_index nets place) ≤ lead planned node net)

-- no microcycle before a number has all these inlets there
abbrev pub IsPressing : PlacedDesign → ℕ → List ℕ → List ℕ → ℕ → Type 0
IsPressing placed node nets row number = InPlans placed (λ planned. (end : ℕ)
    → ((place : ℕ) → IsTrue (has row place) → place < length nets → brought_at planned node (slice_index nets place) ≤ end) → number ≤ end)
