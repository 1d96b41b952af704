-- Texts that have the chip of each cell alone, as the second line of a plan text: the chips that a text spells, or its fault.
-- Source: this project.
use Rattle.std.specs.Prelude.{◌≡◌, ◌≢◌, ◌<◌, ◌≤◌, ◌^◌, ◌⊎◌, ℕ, List, [], ◌∷◌, ◌++◌, length, ⊤}
use Rattle.std.specs.List.{All}
use Rattle.vw_plantext.specs.declared.fault.PlanTextFault.{PlanTextFault}
use Rattle.vw_plantext.specs.declared.fault.PlanTextFault.TheVariants.{TooLarge, BadLine, NoMemory}
use Rattle.vw_plantext.specs.Grammar.{chips_line}
use Rattle.vw_plantext.specs.declared.limits.TheConstants.{MOST_PLAN_BYTES}

-- the chips of fewer than 2 ^ 32 cells, each below 2 ^ 32
pub record AreInRange (chips : List ℕ) : Type 0 where
  pub few : length chips < 2 ^ 32
  pub fit : All (λ chip. chip < 2 ^ 32) chips

-- a text begins with the line of these chips, and this stands behind it
abbrev pub BeginsWithChips : List ℕ → List ℕ → List ℕ → Type 0
BeginsWithChips text chips rest = AreInRange chips × (text ≡ chips_line chips ++ 10 ∷ rest)

-- a text within the limit is the line of these chips, and nothing stands behind it
pub record SpellsChips (text chips : List ℕ) : Type 0 where
  pub small : length text ≤ MOST_PLAN_BYTES
  pub is : BeginsWithChips text chips []

-- it doesn't begin with a line of chips, or something stands behind this
abbrev pub IsBadAt : List ℕ → ℕ → Type 0
IsBadAt text line =
    ((line ≡ 1) × ((chips rest : List ℕ) → ¬ (BeginsWithChips text chips rest)))
    ⊎ ((line ≡ 2) × (chips : List ℕ) × (rest : List ℕ) × BeginsWithChips text chips rest × (rest ≢ []))

-- a text is refused for this reason; want of memory says nothing of it
abbrev pub RefusesChips : List ℕ → PlanTextFault → Type 0
RefusesChips text TooLarge = MOST_PLAN_BYTES < length text
RefusesChips text (BadLine line) = (length text ≤ MOST_PLAN_BYTES) × IsBadAt text line
RefusesChips text NoMemory = ⊤
