-- Plain lines are read back: words without special bytes, one space between them, each line with its end.
use Rattle.std.proofs.Common.{◌≡◌, ℕ, ◌+◌, ◌-◌, ◌<◌, Bool, true, false, cond, ◌==◌, ◌||◌, not, List, [], ◌∷◌, ◌++◌, map, length, get_or, take, None, refl, sym, ◌∙◌, ap, arith}
use Rattle.std.specs.List.{AllByRecursion, filter, list_all, list_any, slice_split, join_with_byte, suffix_len}
use Rattle.std.proofs.lemmas.Bool.{and_parts, not-true, both_ways, false_from_ne_true, cond-true, eqb-false, false≢true}
use Rattle.std.proofs.lemmas.List.{append_assoc, take_all, get_or_at, get_or-append-add, length-append}
use Rattle.std.proofs.lemmas.List.Elements.{All-cons, All-append, All-same}
use Rattle.std.proofs.lemmas.List.Folds.{list_any_at}
use Rattle.std.proofs.lemmas.List.Splits.{slice_split_none, slice_split_at}
use Rattle.std.proofs.lemmas.List.Sums.{position_or_len_is, suffix_len_is}
use Rattle.vw_text.specs.Physical.{text_lines}
use Rattle.vw_text.specs.Bare.{is_blank, trimmed, bare}
use Rattle.vw_text.specs.Logical.{before_backslash, joined_lines, with_line}
use Rattle.vw_text.specs.WordLines.{is_empty, words_of, word_lines_of}
use Rattle.vw_text.specs.PlainLines.{is_special, is_plain, IsPlainLine, plain_text, numbered_lines}
use Rattle.vw_text.proofs.FoundBytes.{HasNo, has_neither}
use Rattle.vw_text.proofs.FirstLine.{line_first}
use Rattle.vw_text.proofs.LastByte.{no_backslash}

-- the end of a line, a `#` or a `\`
abbrev is_line_mark : ℕ → Bool
is_line_mark b = b == 10 || (b == 35 || b == 92)

-- what a plain word is
record IsWord (word : List ℕ) : Type 0 where
  some : 0 < length word
  unmarked : HasNo is_line_mark word
  unblank : HasNo is_blank word

plain_word : (word : List ℕ) → is_plain word ≡ true → IsWord word
plain_word word plain =
    let parts = and_parts (not (is_empty word)) (not (list_any is_special word)) plain in
    let empty = eqb-false _ _ (not-true _ parts.0) in
    let each : HasNo is_special word =
    λ k d inside. false_from_ne_true _ (λ special. both_ways _ (not-true _ parts.1) (list_any_at is_special word k d inside special)) in
    let neither = has_neither is_blank is_line_mark word each in
    record { some = omega arith; unmarked = neither.1; unblank = neither.0 }

-- what a line of plain words is
record IsLine (line : List ℕ) : Type 0 where
  some : 0 < length line
  unmarked : HasNo is_line_mark line
  last : is_blank (get_or line (length line - 1) 0) ≡ false

word_alone : (word : List ℕ) → IsWord word → IsLine word
word_alone word plain = record {
  some = plain.some;
  unmarked = plain.unmarked;
  last = plain.unblank (length word - 1) 0 (omega (arith, plain.some));
}

-- other bytes before a line keep its end
last_kept : (front line : List ℕ) → 0 < length line → is_blank (get_or line (length line - 1) 0) ≡ false
    → is_blank (get_or (front ++ line) (length (front ++ line) - 1) 0) ≡ false
last_kept front line some last =
    let place : length (front ++ line) - 1 ≡ length front + (length line - 1) = omega (arith, length-append front line) in
    ap (λ at. is_blank (get_or (front ++ line) at 0)) place ∙ ap is_blank (get_or-append-add front line (length line - 1) 0) ∙ last

word_before : (word line : List ℕ) → IsWord word → IsLine line → IsLine (word ++ 32 ∷ line)
word_before word line plain behind = record {
  some = omega (arith, length-append word (32 ∷ line));
  unmarked = All-append (λ b. is_line_mark b ≡ false) word (32 ∷ line) plain.unmarked (All-cons (λ b. is_line_mark b ≡ false) 32 line refl behind.unmarked);
  last = last_kept word (32 ∷ line) (omega arith) (last_kept (32 ∷ []) line behind.some behind.last);
}

words_line : (word : List ℕ) (words : List (List ℕ)) → list_all is_plain (word ∷ words) ≡ true → IsLine (join_with_byte 32 (word ∷ words))
words_line word [] plain = word_alone word (plain_word word (and_parts (is_plain word) true plain).0)
words_line word (next ∷ words) plain =
    let parts = and_parts (is_plain word) (list_all is_plain (next ∷ words)) plain in
    word_before word (join_with_byte 32 (next ∷ words)) (plain_word word parts.0) (words_line next words parts.1)

-- nothing is taken off such a line
stays_bare : (line : List ℕ) → IsLine line → bare line ≡ line
stays_bare line is =
    let no_comment = (has_neither (λ b. b == 35) (λ b. b == 92) line (has_neither (λ b. b == 10) (λ b. b == 35 || b == 92) line is.unmarked).1).0 in
    let uncommented = position_or_len_is (λ b. b == 35) line (length line) 0 (omega arith) (λ k below. no_comment k 0 below) (λ past. absurd (omega arith)) in
    let untrimmed = suffix_len_is is_blank line (length line) 0 (omega arith) (λ k past below. absurd (omega arith)) (λ some. is.last) in
    let all : length line - suffix_len is_blank line ≡ length line = omega arith in
    let whole = take_all (length line) line (omega arith) in
    ap trimmed (ap (λ n. take n line) uncommented ∙ whole) ∙ ap (λ n. take n line) all ∙ whole

goes_not_on : (line : List ℕ) → IsLine line → before_backslash line ≡ None
goes_not_on line is = no_backslash line (λ front same.
    let unmarked = All-same (λ b. is_line_mark b ≡ false) (front ++ 92 ∷ []) line (sym same) is.unmarked in
    both_ways _ (unmarked (length front) 0 (omega (arith, length-append front (92 ∷ [])))) (ap is_line_mark (get_or_at front 92 [] 0 (length front) refl)))

-- its words are those that it was made of
words_again : (word : List ℕ) (words : List (List ℕ)) → list_all is_plain (word ∷ words) ≡ true → slice_split is_blank (join_with_byte 32 (word ∷ words)) ≡ word ∷ words
words_again word [] plain = slice_split_none is_blank word (plain_word word (and_parts (is_plain word) true plain).0).unblank
words_again word (next ∷ words) plain =
    let parts = and_parts (is_plain word) (list_all is_plain (next ∷ words)) plain in
    slice_split_at is_blank word 32 (join_with_byte 32 (next ∷ words)) (plain_word word parts.0).unblank refl ∙ ap (λ words. word ∷ words) (words_again next words parts.1)

none_is_empty : (words : List (List ℕ)) → list_all is_plain words ≡ true → filter (λ part. not (is_empty part)) words ≡ words
none_is_empty [] plain = refl
none_is_empty (word ∷ words) plain =
    let parts = and_parts (is_plain word) (list_all is_plain words) plain in
    cond-true (not (is_empty word)) _ _ (and_parts (not (is_empty word)) (not (list_any is_special word)) parts.0).0 ∙ ap (λ words. word ∷ words) (none_is_empty words parts.1)

-- one line comes off the text
line_read : (number : ℕ) (word : List ℕ) (words : List (List ℕ)) (rest : List ℕ) → list_all is_plain (word ∷ words) ≡ true → not (is_empty (word ∷ words)) ≡ true
    → word_lines_of (joined_lines number (map bare (text_lines (join_with_byte 32 (word ∷ words) ++ 10 ∷ [] ++ rest))))
    ≡ record { number = number; words = word ∷ words } ∷ word_lines_of (joined_lines (number + 1) (map bare (text_lines rest)))
line_read number word words rest plain some =
    let line = join_with_byte 32 (word ∷ words) in
    let is = words_line word words plain in
    let no_end = (has_neither (λ b. b == 10) (λ b. b == 35 || b == 92) line is.unmarked).0 in
    let behind = joined_lines (number + 1) (map bare (text_lines rest)) in
    let made : words_of line ≡ word ∷ words = ap (filter (λ part. not (is_empty part))) (words_again word words plain) ∙ none_is_empty (word ∷ words) plain in
    ap (λ lines. word_lines_of (joined_lines number (map bare lines))) (ap text_lines (append_assoc line (10 ∷ []) rest) ∙ line_first line rest no_end)
    ∙ ap (λ line. word_lines_of (with_line number line (before_backslash line) behind)) (stays_bare line is)
    ∙ ap (λ front. word_lines_of (with_line number line front behind)) (goes_not_on line is)
    ∙ ap (λ words. cond (not (is_empty words)) (record { number = number; words = words } ∷ word_lines_of behind) (word_lines_of behind)) made
    ∙ cond-true (not (is_empty (word ∷ words))) _ _ some

pub lines_read : (number : ℕ) (lines : List (List (List ℕ))) → AllByRecursion IsPlainLine lines
    → word_lines_of (joined_lines number (map bare (text_lines (plain_text lines)))) ≡ numbered_lines number lines
lines_read number [] plain = refl
lines_read number ([] ∷ lines) plain = absurd (false≢true (and_parts false true plain.0).0)
lines_read number ((word ∷ words) ∷ lines) plain =
    let parts = and_parts (not (is_empty (word ∷ words))) (list_all is_plain (word ∷ words)) plain.0 in
    line_read number word words (plain_text lines) parts.1 parts.0 ∙ ap (λ lines. record { number = number; words = word ∷ words } ∷ lines) (lines_read (number + 1) lines plain.1)
