-- The lines of a text have no greater numbers than the text has bytes.
use Rattle.std.proofs.Common.{◌<◌, ◌≤◌, ◌+◌, ◌^◌, not, ℕ, List, [], ◌∷◌, ◌++◌, length, map, Option, Some, None, All, arith}
use Rattle.std.proofs.lemmas.List.{length-map}
use Rattle.std.proofs.lemmas.List.Elements.{All-nil, All-cons, All-tail, All-map, All-filter}
use Rattle.vw_text.proofs.LineCounts.{length-text_lines}
use Rattle.vw_text.specs.Physical.{text_lines}
use Rattle.vw_text.specs.Bare.{bare}
use Rattle.vw_text.specs.Logical.{Logical, before_backslash, continued, with_line, joined_lines, logical_lines}
use Rattle.vw_text.specs.WordLines.{is_empty, word_line, word_lines}
use Rattle.vw_board.specs.declared.limits.TheConstants.{MOST_BOARD_BYTES}

-- a line that is joined has the number of its first part
continued_below : (bound number : ℕ) (front : List ℕ) (lines : List Logical) → number < bound → All (λ line. line.number < bound) lines → All (λ line. line.number < bound) (continued number front lines)
continued_below bound number front [] below all = All-cons (λ line. line.number < bound) (record { number = number; bytes = front }) [] below (All-nil (λ line. line.number < bound))
continued_below bound number front (next ∷ lines) below all = All-cons (λ line. line.number < bound) (record { number = number; bytes = front ++ next.bytes }) lines below (All-tail (λ line. line.number < bound) next lines all)

with_line_below : (bound number : ℕ) (line : List ℕ) (front : Option (List ℕ)) (lines : List Logical) → number < bound → All (λ other. other.number < bound) lines → All (λ other. other.number < bound) (with_line number line front lines)
with_line_below bound number line None lines below all = All-cons (λ other. other.number < bound) (record { number = number; bytes = line }) lines below all
with_line_below bound number line (Some front) lines below all = continued_below bound number front lines below all

joined_below : (bound number : ℕ) (lines : List (List ℕ)) → number + length lines ≤ bound → All (λ line. line.number < bound) (joined_lines number lines)
joined_below bound number [] few = All-nil (λ line. line.number < bound)
joined_below bound number (line ∷ lines) few = with_line_below bound number line (before_backslash line) (joined_lines (number + 1) lines) (omega arith) (joined_below bound (number + 1) lines (omega arith))

pub numbers_below : (text : List ℕ) → length text ≤ MOST_BOARD_BYTES → All (λ line. line.number < 2 ^ 63) (word_lines text)
numbers_below text small =
    let few : length (map bare (text_lines text)) ≤ length text = omega (arith, length-map (text_lines text) bare, length-text_lines text) in
    let logical : All (λ line. line.number < 2 ^ 63) (logical_lines text) = joined_below (2 ^ 63) 1 (map bare (text_lines text)) (omega arith) in
    let lines : All (λ line. line.number < 2 ^ 63) (map word_line (logical_lines text)) = All-map (λ line. line.number < 2 ^ 63) word_line (logical_lines text) logical in
    All-filter (λ line. not (is_empty line.words)) (λ line. line.number < 2 ^ 63) (map word_line (logical_lines text)) lines
