-- Lines with their ends, as a text has them.
use Rattle.std.proofs.Common.{◌≡◌, ◌==◌, ℕ, List, [], ◌∷◌, ◌++◌, get_or, ap₂, refl, sym, ◌∙◌, append_assoc}
use Rattle.std.specs.List.{list_any, AllByRecursion}
use Rattle.std.proofs.lemmas.Bool.{both_ways, false_from_ne_true}
use Rattle.std.proofs.lemmas.List.Folds.{list_any_at}
use Rattle.vw_plantext.specs.Steps.Cuts.{IsOneLine}
use Rattle.vw_text.proofs.CutAtByte.{cut_once as byte_cut_once}
use Rattle.vw_text.proofs.FoundBytes.{HasNo}
use Rattle.vw_text.specs.Physical.{lines_text}

abbrev pub AreLines : List (List ℕ) → Type 0
AreLines lines = AllByRecursion IsOneLine lines

without_end : (line : List ℕ) → IsOneLine line → HasNo (λ b. b == 10) line
without_end line one_line place default within = false_from_ne_true (get_or line place default == 10) (λ is. both_ways (list_any (λ b. b == 10) line) one_line (list_any_at (λ b. b == 10) line place default within is))

-- two lines, each with its end and something behind it
pub record SameCut (one other behind other_behind : List ℕ) : Type 0 where
  pub line : one ≡ other
  pub rest : behind ≡ other_behind

pub cut_once : (one other behind other_behind : List ℕ) → IsOneLine one → IsOneLine other → one ++ 10 ∷ behind ≡ other ++ 10 ∷ other_behind → SameCut one other behind other_behind
cut_once one other behind other_behind line other_line same =
    let cut = byte_cut_once 10 one other behind other_behind (without_end one line) (without_end other other_line) same in
    record { line = cut.0; rest = cut.1 }

-- a text of lines that begins with lines is that of these and some more
pub record IsMore (lines whole : List (List ℕ)) (rest : List ℕ) : Type 0 where
  pub more : List (List ℕ)
  pub is : whole ≡ lines ++ more
  pub text : lines_text more ≡ rest

pub lines_within : (lines whole : List (List ℕ)) (rest : List ℕ) → AreLines lines → AreLines whole → lines_text lines ++ rest ≡ lines_text whole → IsMore lines whole rest
lines_within [] whole rest lines_are whole_are same = record { more = whole; is = refl; text = sym same }
lines_within (line ∷ lines) [] rest lines_are whole_are same = absurd (none line (lines_text lines) rest same) where
  none : (front behind after : List ℕ) → ((front ++ 10 ∷ []) ++ behind) ++ after ≡ [] → ⊥
  none [] behind after empty = cc
  none (b ∷ bs) behind after empty = cc
lines_within (line ∷ lines) (first ∷ whole) rest lines_are whole_are same =
    let regroup : (line ++ 10 ∷ []) ++ lines_text lines ++ rest ≡ line ++ 10 ∷ (lines_text lines ++ rest) = simp append_assoc in
    let regroup' : (first ++ 10 ∷ []) ++ lines_text whole ≡ first ++ 10 ∷ lines_text whole = simp append_assoc in
    let cut : SameCut line first (lines_text lines ++ rest) (lines_text whole) = cut_once line first (lines_text lines ++ rest) (lines_text whole) lines_are.0 whole_are.0 (sym regroup ∙ same ∙ regroup') in
    let later : IsMore lines whole rest = lines_within lines whole rest lines_are.1 whole_are.1 cut.rest in
    record { more = later.more; is = ap₂ (λ (x : List ℕ) (xs : List (List ℕ)). x ∷ xs) (sym cut.line) later.is; text = later.text }
