-- The line of a text of chips.
use Rattle.std.specs.Prelude.{◌≡◌, ◌≢◌, ℕ, List}
use Rattle.vw_plantext.specs.ChipsText.{AreInRange}
use Rattle.vw_plantext.specs.Grammar.{chips_line}

abbrev pub IsLineOf : List ℕ → List ℕ → Type 0
IsLineOf line chips = AreInRange chips × (line ≡ chips_line chips)

abbrev pub IsNoLine : List ℕ → Type 0
IsNoLine line = (chips : List ℕ) → AreInRange chips → line ≢ chips_line chips
