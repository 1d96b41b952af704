-- Rows that are written one a line are read back.
use Rattle.std.proofs.Common.{◌≡◌, ℕ, suc, ◌+◌, ◌≤◌, Bool, true, false, ◌==◌, ◌||◌, ◌&&◌, not, List, [], ◌∷◌, ◌++◌, map, length, replicate, take, Some, Ok, refl, ◌∙◌, ap, ap₂, arith}
use Rattle.std.specs.List.{All, list_all, filter}
use Rattle.std.proofs.lemmas.Bool.{cond-true, cond-false, le-ltb, ne_eqb, eq-eqb}
use Rattle.std.proofs.lemmas.List.{append_assoc, take_all, length-append}
use Rattle.std.proofs.lemmas.List.Elements.{All-cons, All-nil}
use Rattle.std.proofs.lemmas.List.Splits.{slice_split_none}
use Rattle.std.proofs.lemmas.List.Sums.{position_or_len_is}
use Rattle.vw_text.specs.Bare.{is_blank, without_comment}
use Rattle.vw_text.specs.Physical.{text_lines}
use Rattle.vw_text.specs.WordLines.{is_empty, words_of}
use Rattle.vw_text.proofs.BitTexts.{shown, shown_has_no}
use Rattle.vw_text.proofs.FoundBytes.{HasNo}
use Rattle.vw_text.proofs.FirstLine.{line_first}
use Rattle.vw_rows.specs.Stimulus.{line_words, is_bits, bits_of, row_of_bits, rows_added, last_row, within_run, and_then, behind, rows_of_lines, stimulus_rows}
use Rattle.vw_text.specs.Printed.{bits_text}
use Rattle.vw_rows.specs.Written.{rows_written}

-- a test that no character of a text of bits passes
pub written_has_no : (test : ℕ → Bool) → test 45 ≡ false → test 48 ≡ false → test 49 ≡ false → (row : List Bool) → HasNo test (bits_text row)
written_has_no test dash zero one [] = All-cons (λ b. test b ≡ false) 45 [] dash (All-nil (λ b. test b ≡ false))
written_has_no test dash zero one (bit ∷ bits) = shown_has_no test zero one (bit ∷ bits)

written_is_some : (row : List Bool) → not (is_empty (bits_text row)) ≡ true
written_is_some [] = refl
written_is_some (bit ∷ bits) = ap not (ne_eqb (length (bits_text (bit ∷ bits))) 0 (λ none. absurd (omega arith)))

-- the one word of its line
one_word_written : (row : List Bool) → line_words (bits_text row) ≡ bits_text row ∷ []
one_word_written row =
    let line = bits_text row in
    let no_comment = written_has_no (λ b. b == 35) refl refl refl row in
    let uncommented = position_or_len_is (λ b. b == 35) line (length line) 0 (omega arith) (λ k below. no_comment k 0 below) (λ past. absurd (omega arith)) in
    let bare : without_comment line ≡ line = ap (λ n. take n line) uncommented ∙ take_all (length line) line (omega arith) in
    ap words_of bare
    ∙ ap (filter (λ part. not (is_empty part))) (slice_split_none is_blank line (written_has_no is_blank refl refl refl row))
    ∙ cond-true (not (is_empty line)) (line ∷ []) [] (written_is_some row)

shown_are_bits : (row : List Bool) → list_all (λ b. b == 48 || b == 49) (map shown row) ≡ true
shown_are_bits [] = refl
shown_are_bits (true ∷ row) = shown_are_bits row
shown_are_bits (false ∷ row) = shown_are_bits row

shown_again : (row : List Bool) → map (λ b. b == 49) (map shown row) ≡ row
shown_again [] = refl
shown_again (true ∷ row) = ap (λ bits. true ∷ bits) (shown_again row)
shown_again (false ∷ row) = ap (λ bits. false ∷ bits) (shown_again row)

bits_again : (row : List Bool) → bits_of (bits_text row) ≡ Some row
bits_again [] = refl
bits_again (bit ∷ bits) =
    let row = bit ∷ bits in
    let are : is_bits (map shown row) ≡ true = ap₂ (λ x y. x && y) (shown_are_bits row) (written_is_some row) in
    cond-true (is_bits (map shown row)) _ _ are ∙ ap Some (shown_again row)

row_again : (width number : ℕ) (before row : List Bool) → length row ≡ width → rows_added width number before (line_words (bits_text row)) ≡ Ok (row ∷ [])
row_again width number before row wide =
    ap (rows_added width number before) (one_word_written row)
    ∙ ap (row_of_bits width number) (bits_again row)
    ∙ cond-true (length row == width) _ _ (eq-eqb (length row) width wide)

lines_again : (width number count : ℕ) (before : List Bool) (rows : List (List Bool)) → All (λ row. length row ≡ width) rows → count + length rows ≤ 4294967295
    → rows_of_lines width number count before (text_lines (rows_written rows)) ≡ Ok rows
lines_again width number count before [] wide few = refl
lines_again width number count before (row ∷ rows) wide few =
    let line = bits_text row in
    let rest = text_lines (rows_written rows) in
    let further = λ (added : List (List Bool)). behind added (rows_of_lines width (number + 1) (count + length added) (last_row before added) rest) in
    ap (rows_of_lines width number count before) (ap text_lines (append_assoc line (10 ∷ []) (rows_written rows)) ∙ line_first line (rows_written rows) (written_has_no (λ b. b == 10) refl refl refl row))
    ∙ ap (λ said. and_then (within_run count said) further) (row_again width number before row (wide 0 row (omega arith)))
    ∙ ap (λ said. and_then said further) (cond-false _ _ _ (le-ltb 4294967295 (count + 1) (omega (few, arith))))
    ∙ ap (behind (row ∷ [])) (lines_again width (number + 1) (count + 1) row rows (λ k d inside. wide (suc k) d (omega (inside, arith))) (omega (few, arith)))

-- there are no more rows than bytes
rows_within : (rows : List (List Bool)) → length rows ≤ length (rows_written rows)
rows_within [] = omega arith
rows_within (row ∷ rows) = omega (rows_within rows, length-append (bits_text row ++ 10 ∷ []) (rows_written rows), length-append (bits_text row) (10 ∷ []), arith)

pub rows_again : (width : ℕ) (rows : List (List Bool)) → All (λ row. length row ≡ width) rows → length (rows_written rows) ≤ 1073741824
    → stimulus_rows width (rows_written rows) ≡ Ok rows
rows_again width rows wide short =
    cond-false _ _ _ (le-ltb 1073741824 (length (rows_written rows)) short)
    ∙ lines_again width 1 0 (replicate width false) rows wide (omega (short, rows_within rows, arith))
