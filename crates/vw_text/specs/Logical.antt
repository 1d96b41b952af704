-- Logical lines: a line whose last byte is `\` goes on with the next, with nothing put between. Source: the Berkeley
-- description of BLIF.
use Rattle.std.specs.Prelude.{ℕ, ◌+◌, List, [], ◌∷◌, ◌++◌, map, Option, Some, None, option_map, if◌then◌else◌, ◌==◌}
use Rattle.vw_text.specs.Physical.{text_lines}
use Rattle.vw_text.specs.Bare.{bare}

-- a logical line, with the number of its first physical line
pub record Logical : Type 0 where
  pub number : ℕ
  pub bytes : List ℕ

-- what stands before the `\` at the end, where there is one
abbrev pub before_backslash : List ℕ → Option (List ℕ)
before_backslash [] = None
before_backslash (b ∷ []) = if b == 92 then Some [] else None
before_backslash (b ∷ c ∷ bs) = option_map (λ front. b ∷ front) (before_backslash (c ∷ bs))

-- a line with this number, of which this is the front, goes on with the first of these lines; with none it ends here
abbrev pub continued : ℕ → List ℕ → List Logical → List Logical
continued number front [] = record { number = number; bytes = front } ∷ []
continued number front (next ∷ lines) = record { number = number; bytes = front ++ next.bytes } ∷ lines

-- a bare physical line before logical ones, by what stands before its `\`
abbrev pub with_line : ℕ → List ℕ → Option (List ℕ) → List Logical → List Logical
with_line number line None lines = record { number = number; bytes = line } ∷ lines
with_line number line (Some front) lines = continued number front lines

-- the logical lines of bare physical lines, of which the first has this number
abbrev pub joined_lines : ℕ → List (List ℕ) → List Logical
joined_lines number [] = []
joined_lines number (line ∷ lines) = with_line number line (before_backslash line) (joined_lines (number + 1) lines)

-- those of a text; physical lines are numbered from 1
abbrev pub logical_lines : List ℕ → List Logical
logical_lines text = joined_lines 1 (map bare (text_lines text))
