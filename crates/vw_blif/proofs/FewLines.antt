-- A text has no more word lines than bytes.
use Rattle.std.proofs.Common.{◌≤◌, ℕ, suc, not, List, [], ◌∷◌, ◌+◌, length, map, Option, Some, None, arith}
use Rattle.std.proofs.lemmas.List.{length-map}
use Rattle.std.proofs.lemmas.List.Sums.{length-filter, count_by-le-length}
use Rattle.vw_text.proofs.LineCounts.{length-text_lines}
use Rattle.vw_text.specs.declared.line.Line.{Line}
use Rattle.vw_text.specs.Bare.{bare}
use Rattle.vw_text.specs.Physical.{text_lines}
use Rattle.vw_text.specs.Logical.{Logical, before_backslash, with_line, joined_lines, logical_lines}
use Rattle.vw_text.specs.WordLines.{is_empty, word_line, word_lines}

few_with_line : (number : ℕ) (line : List ℕ) (front : Option (List ℕ)) (lines : List Logical) (n : ℕ) → length lines ≤ n → length (with_line number line front lines) ≤ suc n
few_with_line number line None lines n few = omega (few, arith)
few_with_line number line (Some front) [] n few = omega arith
few_with_line number line (Some front) (next ∷ lines) n few = omega (few, arith)

few_joined : (number : ℕ) (lines : List (List ℕ)) → length (joined_lines number lines) ≤ length lines
few_joined number [] = omega arith
few_joined number (line ∷ lines) = few_with_line number line (before_backslash line) (joined_lines (number + 1) lines) (length lines) (few_joined (number + 1) lines)

pub few_word_lines : (text : List ℕ) → length (word_lines text) ≤ length text
few_word_lines text =
    let some = λ (line : Line). not (is_empty line.words) in
    let kept = length-filter some (map word_line (logical_lines text)) in
    let counted = count_by-le-length some (map word_line (logical_lines text)) in
    let same = length-map (logical_lines text) word_line in
    let all = few_joined 1 (map bare (text_lines text)) in
    let bared = length-map (text_lines text) bare in
    let cut = length-text_lines text in
    omega (kept, counted, same, all, bared, cut, arith)
