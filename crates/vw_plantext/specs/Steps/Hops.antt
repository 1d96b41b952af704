-- Lines of hops and wires, and their numbers.
use Rattle.std.specs.Prelude.{◌≡◌, ◌≢◌, ◌<◌, ◌≤◌, ◌^◌, ℕ, List, [], ◌∷◌, codes}
use Rattle.vw_plan.specs.declared.wire.Hop.{Hop}
use Rattle.vw_plantext.specs.Content.{IsHopInRange}
use Rattle.vw_plantext.specs.Grammar.{hop_line, number_line}
use Rattle.vw_plantext.specs.declared.body.OpenWire.{OpenWire}

abbrev pub hop_numbers : Hop → List ℕ
hop_numbers hop = hop.from ∷ hop.to ∷ hop.pin ∷ hop.at ∷ []

-- numbers are those of a hop
pub record IsHop (numbers : List ℕ) (hop : Hop) : Type 0 where
  pub are : numbers ≡ hop_numbers hop
  pub in_range : IsHopInRange hop

-- they are those of none
abbrev pub IsNoHop : List ℕ → Type 0
IsNoHop numbers = (hop : Hop) → IsHopInRange hop → numbers ≢ hop_numbers hop

-- the same of lines
pub record IsHopLine (line : List ℕ) (hop : Hop) : Type 0 where
  pub is : line ≡ hop_line hop
  pub in_range : IsHopInRange hop

abbrev pub IsNoHopLine : List ℕ → Type 0
IsNoHopLine line = (hop : Hop) → IsHopInRange hop → line ≢ hop_line hop

-- numbers of a wire without hops so far, of which so many are left, and there is room for them
pub record IsWireHead (room : ℕ) (numbers : List ℕ) (wire : OpenWire) : Type 0 where
  pub are : numbers ≡ wire.net ∷ wire.to ∷ wire.left ∷ []
  pub none : wire.hops.items ≡ []
  pub net : wire.net < 2 ^ 32
  pub to : wire.to < 2 ^ 32
  pub few : wire.left ≤ room

abbrev pub IsNoWireHead : ℕ → List ℕ → Type 0
IsNoWireHead room numbers = (net to hops : ℕ) → net < 2 ^ 32 → to < 2 ^ 32 → hops ≤ room → numbers ≢ net ∷ to ∷ hops ∷ []

-- the same of lines
pub record IsWireHeadLine (room : ℕ) (line : List ℕ) (wire : OpenWire) : Type 0 where
  pub is : line ≡ number_line (codes "wire") (wire.net ∷ wire.to ∷ wire.left ∷ [])
  pub none : wire.hops.items ≡ []
  pub net : wire.net < 2 ^ 32
  pub to : wire.to < 2 ^ 32
  pub few : wire.left ≤ room

abbrev pub IsNoWireHeadLine : ℕ → List ℕ → Type 0
IsNoWireHeadLine room line = (net to hops : ℕ) → net < 2 ^ 32 → to < 2 ^ 32 → hops ≤ room → line ≢ number_line (codes "wire") (net ∷ to ∷ hops ∷ [])
