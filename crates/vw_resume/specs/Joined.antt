-- Texts that are joined line by line. Source: this project.
use Rattle.std.specs.Prelude.{◌≡◌, ℕ, List, [], ◌∷◌, ◌++◌}
use Rattle.vw_text.specs.Physical.{text_lines, lines_text}

-- the lines of a text, each of which has byte 10 at its end and nowhere else
pub record HasLines (text : List ℕ) (lines : List (List ℕ)) : Type 0 where
  pub joined : text ≡ lines_text lines
  pub apart : text_lines text ≡ lines

-- a text is another one without its last line, followed by a third one without its first line
pub record IsJoined (one other whole : List ℕ) : Type 0 where
  pub front : List (List ℕ)
  pub last : List ℕ
  pub first : List ℕ
  pub rest : List (List ℕ)
  pub of_one : HasLines one (front ++ last ∷ [])
  pub of_other : HasLines other (first ∷ rest)
  pub of_whole : HasLines whole (front ++ rest)
