-- The first line that can't stand there.
use Rattle.std.proofs.Common.{◌≡◌, ◌≢◌, ◌+◌, ◌==◌, ℕ, true, List, [], ◌∷◌, ◌++◌, length, refl, sym, subst, ◌∙◌}
use Rattle.std.specs.List.{list_any}
use Rattle.std.proofs.lemmas.Bool.{both_ways, or_parts}
use Rattle.std.proofs.lemmas.List.{append_assoc, append-nil}
use Rattle.vw_text.specs.Physical.{lines_text}
use Rattle.vw_plantext.specs.Content.{Content, IsInRange}
use Rattle.vw_plantext.specs.Grammar.{plan_lines, spelling}
use Rattle.vw_plantext.specs.CanStand.{CanStand, IsFirstBadLine}
use Rattle.vw_plantext.specs.Steps.Cuts.{IsOneLine, IsLineCut}
use Rattle.vw_plantext.proofs.LineEnds.{AreLines, IsMore, lines_within, SameCut, cut_once}
use Rattle.vw_plantext.proofs.Lines.{plan_lines_are}

-- lines and more lines
lines_front : (lines more : List (List ℕ)) → AreLines (lines ++ more) → AreLines lines
lines_front [] more are = tt
lines_front (line ∷ lines) more are = (are.0, lines_front lines more are.1)

lines_behind : (lines more : List (List ℕ)) → AreLines (lines ++ more) → AreLines more
lines_behind [] more are = are
lines_behind (line ∷ lines) more are = lines_behind lines more are.1

-- lines that can stand are lines
pub can_stand_lines : (lines : List (List ℕ)) → CanStand lines → AreLines lines
can_stand_lines lines can = lines_front lines can.rest (subst AreLines (sym can.begins) (plan_lines_are can.content can.in_range))

-- the front of lines that can stand can
pub can_stand_front : (lines more : List (List ℕ)) → CanStand (lines ++ more) → CanStand lines
can_stand_front lines more can = record { content = can.content; in_range = can.in_range; rest = more ++ can.rest; begins = sym (append_assoc lines more can.rest) ∙ can.begins }

-- a line with its end is no front of a text without
no_end : (line behind : List ℕ) → IsOneLine (line ++ 10 ∷ behind) → ⊥
no_end [] behind none = both_ways true none refl
no_end (b ∷ line) behind none = no_end line behind (or_parts (b == 10) (list_any (λ c. c == 10) (line ++ 10 ∷ behind)) none).1

module _ (text : List ℕ) (lines : List (List ℕ)) (rest : List ℕ) (number : ℕ) (is_number : length lines + 1 ≡ number) (whole : text ≡ lines_text lines ++ rest) (can : CanStand lines) where
  -- no further line can stand, and the lines aren't all of a plan with nothing behind them
  pub first_bad : ((next after : List ℕ) → rest ≡ next ++ 10 ∷ after → IsOneLine next → ¬ (CanStand (lines ++ next ∷ []))) → ((content : Content) → IsInRange content → lines ≡ plan_lines content → rest ≢ []) → IsFirstBadLine text number
  first_bad no_next not_whole = record { lines = lines; rest = rest; number = is_number; whole = whole; can_stand = can; can_not = no_next; refused = refused } where
    by_more : (content : Content) → IsInRange content → (more : List (List ℕ)) → plan_lines content ≡ lines ++ more → lines_text more ≡ rest → ⊥
    by_more content fits [] is behind = not_whole content fits (sym (is ∙ append-nil lines)) (sym behind)
    by_more content fits (next ∷ more) is behind =
        let one_line : IsOneLine next = (lines_behind lines (next ∷ more) (subst AreLines is (plan_lines_are content fits))).0 in
        no_next next (lines_text more) (sym behind ∙ append_assoc next (10 ∷ []) (lines_text more)) one_line (record { content = content; in_range = fits; rest = more; begins = append_assoc lines (next ∷ []) more ∙ sym is })

    refused : (content : Content) → IsInRange content → spelling content ≢ text
    refused content fits same =
        let within : IsMore lines (plan_lines content) rest = lines_within lines (plan_lines content) rest (can_stand_lines lines can) (plan_lines_are content fits) (sym whole ∙ sym same) in
        by_more content fits within.more within.is within.text

  -- there is no further line with an end
  pub no_further_line : IsOneLine rest → ((content : Content) → IsInRange content → lines ≢ plan_lines content) → IsFirstBadLine text number
  no_further_line one_line incomplete = first_bad (λ next after is next_line. absurd (no_end next after (subst IsOneLine is one_line))) (λ content fits all none. incomplete content fits all)

  -- the next line can't stand there
  pub bad_line : (line after : List ℕ) → IsLineCut rest line after → ¬ (CanStand (lines ++ line ∷ [])) → IsFirstBadLine text number
  bad_line line after cut can_not = first_bad no_next (λ content fits all none. not_empty line after (sym cut.whole ∙ none)) where
    not_empty : (front behind : List ℕ) → front ++ 10 ∷ behind ≡ [] → ⊥
    not_empty [] behind empty = cc
    not_empty (b ∷ bs) behind empty = cc

    no_next : (next behind : List ℕ) → rest ≡ next ++ 10 ∷ behind → IsOneLine next → ¬ (CanStand (lines ++ next ∷ []))
    no_next next behind is next_line stands =
        let same : SameCut next line behind after = cut_once next line behind after next_line cut.one_line (sym is ∙ cut.whole) in
        can_not (subst (λ (one : List ℕ). CanStand (lines ++ one ∷ [])) same.line stands)
