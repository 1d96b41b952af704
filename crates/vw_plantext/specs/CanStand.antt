-- Up to where the lines of a text can stand. Source: this project.
use Rattle.std.specs.Prelude.{◌≡◌, ◌≢◌, ◌+◌, ◌==◌, ℕ, false, List, [], ◌∷◌, ◌++◌, length}
use Rattle.std.specs.List.{list_any}
use Rattle.vw_text.specs.Physical.{lines_text}
use Rattle.vw_plantext.specs.Content.{Content, IsInRange}
use Rattle.vw_plantext.specs.Grammar.{plan_lines, spelling}

-- up to here they can stand: the lines of some plan begin with these
pub record CanStand (lines : List (List ℕ)) : Type 0 where
  pub content : Content
  pub in_range : IsInRange content
  pub rest : List (List ℕ)
  pub begins : lines ++ rest ≡ plan_lines content

-- a text is no plan's, and this line, from 1, is the first of it that can't stand: the lines before it can, and with it
-- they can't, or the text has no such line with its end
pub record IsFirstBadLine (text : List ℕ) (line : ℕ) : Type 0 where
  pub lines : List (List ℕ)
  pub rest : List ℕ
  pub number : length lines + 1 ≡ line
  pub whole : text ≡ lines_text lines ++ rest
  pub can_stand : CanStand lines
  pub can_not : (next : List ℕ) (after : List ℕ) → rest ≡ next ++ 10 ∷ after → list_any (λ b. b == 10) next ≡ false → ¬ (CanStand (lines ++ next ∷ []))
  pub refused : (content : Content) → IsInRange content → spelling content ≢ text
