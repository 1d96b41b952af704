-- A text has no more lines than bytes.
use Rattle.std.proofs.Common.{◌≤◌, ◌==◌, ℕ, suc, List, [], ◌∷◌, length, arith}
use Rattle.std.specs.List.{onto_first}
use Rattle.std.proofs.lemmas.Bool.{cond_both}
use Rattle.vw_text.specs.Physical.{text_lines}

-- a byte makes at most one line more
length-onto_first : (b : ℕ) (lines : List (List ℕ)) → length (onto_first b lines) ≤ suc (length lines)
length-onto_first b [] = omega arith
length-onto_first b (line ∷ lines) = omega arith

-- so there are no more lines than bytes
pub length-text_lines : (text : List ℕ) → length (text_lines text) ≤ length text
length-text_lines [] = omega arith
length-text_lines (b ∷ bs) =
    let rest : length (text_lines bs) ≤ length bs = length-text_lines bs in
    cond_both (b == 10) ([] ∷ text_lines bs) (onto_first b (text_lines bs)) (λ (lines : List (List ℕ)). length lines ≤ suc (length bs)) (λ end. omega arith) (λ amid. omega (arith, length-onto_first b (text_lines bs)))
