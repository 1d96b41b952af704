-- Texts cut at the ends of lines.
use Rattle.std.specs.Prelude.{◌≡◌, ◌==◌, ℕ, false, List, ◌∷◌, ◌++◌}
use Rattle.std.specs.List.{list_any}

-- a line has no byte 10
abbrev pub IsOneLine : List ℕ → Type 0
IsOneLine line = list_any (λ b. b == 10) line ≡ false

-- a line with its end, and what stands behind it
pub record IsLineCut (text line after : List ℕ) : Type 0 where
  pub whole : text ≡ line ++ 10 ∷ after
  pub one_line : IsOneLine line
