-- A text has one first line that can't stand there.
use Rattle.std.proofs.Common.{◌≡◌, ◌+◌, ◌⊎◌, inl, inr, ℕ, List, [], ◌∷◌, ◌++◌, length, ap, ap₂, refl, sym, subst, ◌∙◌, ⊎_elim}
use Rattle.std.proofs.lemmas.List.{append_assoc}
use Rattle.vw_text.specs.Physical.{lines_text}
use Rattle.vw_plantext.specs.CanStand.{CanStand, IsFirstBadLine}
use Rattle.vw_plantext.specs.Steps.Cuts.{IsOneLine}
use Rattle.vw_plantext.proofs.LineEnds.{AreLines, SameCut, cut_once}
use Rattle.vw_plantext.proofs.Faults.{can_stand_lines, can_stand_front}

-- lines that begin with these, and go on
record GoesOn (lines rest_lines : List (List ℕ)) (rest : List ℕ) : Type 0 where
  next : List ℕ
  more : List (List ℕ)
  after : List ℕ
  are : rest_lines ≡ lines ++ next ∷ more
  text : rest ≡ next ++ 10 ∷ after
  one_line : IsOneLine next

-- of two lists of lines with which a text begins, they are one, or one of them goes on
two_fronts : (one other : List (List ℕ)) (rest other_rest : List ℕ) → AreLines one → AreLines other → lines_text one ++ rest ≡ lines_text other ++ other_rest → (one ≡ other) ⊎ (GoesOn one other rest ⊎ GoesOn other one other_rest)
two_fronts [] [] rest other_rest are other_are same = inl refl
two_fronts [] (line ∷ other) rest other_rest are other_are same =
    let regroup : (line ++ 10 ∷ []) ++ lines_text other ++ other_rest ≡ line ++ 10 ∷ (lines_text other ++ other_rest) = simp append_assoc in
    inr (inl (record { next = line; more = other; after = lines_text other ++ other_rest; are = refl; text = same ∙ regroup; one_line = other_are.0 }))
two_fronts (line ∷ one) [] rest other_rest are other_are same =
    let regroup : (line ++ 10 ∷ []) ++ lines_text one ++ rest ≡ line ++ 10 ∷ (lines_text one ++ rest) = simp append_assoc in
    inr (inr (record { next = line; more = one; after = lines_text one ++ rest; are = refl; text = sym same ∙ regroup; one_line = are.0 }))
two_fronts (line ∷ one) (first ∷ other) rest other_rest are other_are same =
    let regroup : (line ++ 10 ∷ []) ++ lines_text one ++ rest ≡ line ++ 10 ∷ (lines_text one ++ rest) = simp append_assoc in
    let other_regroup : (first ++ 10 ∷ []) ++ lines_text other ++ other_rest ≡ first ++ 10 ∷ (lines_text other ++ other_rest) = simp append_assoc in
    let cut : SameCut line first (lines_text one ++ rest) (lines_text other ++ other_rest) = cut_once line first (lines_text one ++ rest) (lines_text other ++ other_rest) are.0 other_are.0 (sym regroup ∙ same ∙ other_regroup) in
    let later = two_fronts one other rest other_rest are.1 other_are.1 cut.rest in
    ⊎_elim (λ all. inl (ap₂ (λ (x : List ℕ) (xs : List (List ℕ)). x ∷ xs) cut.line all)) (λ goes. inr (⊎_elim (λ right. inl (longer_right right cut.line)) (λ left. inr (longer_left left cut.line)) goes)) later where
      longer_right : GoesOn one other rest → line ≡ first → GoesOn (line ∷ one) (first ∷ other) rest
      longer_right right same_line = record { next = right.next; more = right.more; after = right.after; are = ap₂ (λ (x : List ℕ) (xs : List (List ℕ)). x ∷ xs) (sym same_line) right.are; text = right.text; one_line = right.one_line }

      longer_left : GoesOn other one other_rest → line ≡ first → GoesOn (first ∷ other) (line ∷ one) other_rest
      longer_left left same_line = record { next = left.next; more = left.more; after = left.after; are = ap₂ (λ (x : List ℕ) (xs : List (List ℕ)). x ∷ xs) same_line left.are; text = left.text; one_line = left.one_line }

-- a list of lines that can stand isn't longer than the one before the first bad line
not_longer : (text : List ℕ) (number : ℕ) (bad : IsFirstBadLine text number) (others : List (List ℕ)) → CanStand others → GoesOn bad.lines others bad.rest → ⊥
not_longer text number bad others can goes = bad.can_not goes.next goes.after goes.text goes.one_line (can_stand_front (bad.lines ++ goes.next ∷ []) goes.more (subst CanStand (goes.are ∙ sym (append_assoc bad.lines (goes.next ∷ []) goes.more)) can))

pub one_first : (text : List ℕ) (one other : ℕ) → IsFirstBadLine text one → IsFirstBadLine text other → one ≡ other
one_first text one other first second =
    let fronts = two_fronts first.lines second.lines first.rest second.rest (can_stand_lines first.lines first.can_stand) (can_stand_lines second.lines second.can_stand) (sym first.whole ∙ second.whole) in
    let if_same = λ (same : first.lines ≡ second.lines). let whole : one ≡ other = sym first.number ∙ ap (λ (lines : List (List ℕ)). length lines + 1) same ∙ second.number in whole in
    let if_right = λ (goes : GoesOn first.lines second.lines first.rest). let whole : one ≡ other = absurd (not_longer text one first second.lines second.can_stand goes) in whole in
    let if_left = λ (goes : GoesOn second.lines first.lines second.rest). let whole : one ≡ other = absurd (not_longer text other second first.lines first.can_stand goes) in whole in
    ⊎_elim if_same (⊎_elim if_right if_left) fronts
