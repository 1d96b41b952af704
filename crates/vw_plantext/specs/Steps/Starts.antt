-- The first two lines of a plan text, and how far a text is read.
use Rattle.std.specs.Prelude.{◌≡◌, ◌≢◌, ◌<◌, ◌≤◌, ◌+◌, ◌^◌, ℕ, List, [], ◌∷◌, ◌++◌, length, codes}
use Rattle.std.specs.List.{All}
use Rattle.vw_text.specs.Physical.{lines_text}
use Rattle.vw_plantext.specs.declared.start.PlanHead.{PlanHead}
use Rattle.vw_plantext.specs.declared.fault.PlanTextFault.{PlanTextFault}
use Rattle.vw_plantext.specs.declared.fault.PlanTextFault.TheVariants.{TooLarge, BadLine, NoMemory}
use Rattle.vw_plantext.specs.Grammar.{number_line}
use Rattle.vw_plantext.specs.CanStand.{IsFirstBadLine}
use Rattle.vw_plantext.specs.Steps.Bodies.{BodyState, HasRead}

-- the numbers of a first line
abbrev pub head_numbers : ℕ → ℕ → ℕ → List ℕ
head_numbers cells wires period = 1 ∷ cells ∷ wires ∷ period ∷ []

pub record IsPlanHead (numbers : List ℕ) (head : PlanHead) : Type 0 where
  pub are : numbers ≡ head_numbers head.cells head.wires head.period
  pub few_cells : head.cells < 2 ^ 32
  pub few_wires : head.wires < 2 ^ 32
  pub short : head.period ≤ 2 ^ 62

abbrev pub IsNoHead : List ℕ → Type 0
IsNoHead numbers = (cells wires period : ℕ) → cells < 2 ^ 32 → wires < 2 ^ 32 → period ≤ 2 ^ 62 → numbers ≢ head_numbers cells wires period

pub record IsHeadLine (line : List ℕ) (head : PlanHead) : Type 0 where
  pub is : line ≡ number_line (codes "plan") (head_numbers head.cells head.wires head.period)
  pub few_cells : head.cells < 2 ^ 32
  pub few_wires : head.wires < 2 ^ 32
  pub short : head.period ≤ 2 ^ 62

abbrev pub IsNoHeadLine : List ℕ → Type 0
IsNoHeadLine line = (cells wires period : ℕ) → cells < 2 ^ 32 → wires < 2 ^ 32 → period ≤ 2 ^ 62 → line ≢ number_line (codes "plan") (head_numbers cells wires period)

-- the chips of a second line
pub record AreChips (cells : ℕ) (numbers chips : List ℕ) : Type 0 where
  pub are : chips ≡ numbers
  pub each : length chips ≡ cells
  pub fit : All (λ chip. chip < 2 ^ 32) chips

abbrev pub AreNoChips : ℕ → List ℕ → Type 0
AreNoChips cells numbers = length numbers ≡ cells → ¬ (All (λ chip. chip < 2 ^ 32) numbers)

pub record IsChipsLine (cells : ℕ) (line chips : List ℕ) : Type 0 where
  pub is : line ≡ number_line (codes "chips") chips
  pub each : length chips ≡ cells
  pub fit : All (λ chip. chip < 2 ^ 32) chips

abbrev pub IsNoChipsLine : ℕ → List ℕ → Type 0
IsNoChipsLine cells line = (chips : List ℕ) → length chips ≡ cells → All (λ chip. chip < 2 ^ 32) chips → line ≢ number_line (codes "chips") chips

-- a text was read up to here, and this is the number of the next line
pub record IsReadTo (text : List ℕ) (state : BodyState) (rest : List ℕ) (number : ℕ) : Type 0 where
  pub lines : List (List ℕ)
  pub read : HasRead lines state
  pub number_ : length lines + 1 ≡ number
  pub whole : text ≡ lines_text lines ++ rest

-- a fault of a text that isn't too large
abbrev pub IsFaultOfText : List ℕ → PlanTextFault → Type 0
IsFaultOfText text TooLarge = ⊥
IsFaultOfText text (BadLine line) = IsFirstBadLine text line
IsFaultOfText text NoMemory = Unit {0}
