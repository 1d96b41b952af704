-- What a line adds, and what comes of the lines behind it.
use Rattle.std.proofs.Common.{◌≡◌, ◌<◌, ◌≤◌, ◌+◌, ◌^◌, min, ℕ, zero, suc, Bool, List, [], ◌∷◌, ◌++◌, length, take, ◌-◌, Result, Some, None, Ok, Err, refl, sym, ◌∙◌, ap, arith}
use Rattle.std.specs.Prelude.{codes}
use Rattle.std.proofs.lemmas.Bool.{cond-true, cond-false, lt-ltb, le-ltb}
use Rattle.std.proofs.lemmas.List.{append-nil, length-replicate}
use Rattle.vw_text.specs.Physical.{text_lines}
use Rattle.vw_text.specs.WordLines.{words_of}
use Rattle.vw_text.proofs.FirstLine.{line_first, line_alone}
use Rattle.vw_rows.specs.declared.fault.StimFault.{StimFault}
use Rattle.vw_rows.specs.declared.fault.StimFault.TheVariants.{BadLine, TooManyClocks}
use Rattle.vw_rows.specs.declared.line_so_far.LineSoFar.{LineSoFar}
use Rattle.vw_rows.specs.declared.said.Said.TheVariants.{Letters}
use Rattle.vw_rows.specs.declared.scan.Adds.{Adds}
use Rattle.vw_rows.specs.declared.scan.Adds.TheVariants.{Nothing, Row, Copies}
use Rattle.vw_rows.specs.declared.scan.Scan.{Scan}
use Rattle.vw_rows.specs.Stimulus.{line_words, rows_added, last_row, within_run, and_then, behind, rows_of_lines}
use Rattle.vw_rows.specs.Steps.Saying.{EndsWord}
use Rattle.vw_rows.specs.Steps.Lines.{IsUnended, IsLine, BeginsBad}
use Rattle.vw_rows.specs.Steps.Scans.{rows_from_line, rows_by, FitsWidth, AddsRows, AddsToRun}

-- ---- one line

pub line_bad : (read : LineSoFar) (line : List ℕ) (width number : ℕ) (before : List Bool) → EndsWord read.said None → IsLine line read
    → rows_added width number before (line_words line) ≡ Err (BadLine number)
line_bad read line width number before ends is =
    ap (rows_added width number before) (is.whole ∙ sym (append-nil (is.done ++ words_of is.part))) ∙ ends is.done is.part is.row is.said is.solid [] width number before

no_letters : (count : ℕ) → [] ≡ take count (codes "hold") → 0 < count → ⊥
no_letters count none some = omega (ap (λ (bs : List ℕ). length bs) none, some, size count, arith)
  where
    size : (n : ℕ) → 0 < n → 0 < length (take n (codes "hold"))
    size zero some = absurd (omega (some, arith))
    size (suc n) some = omega arith

-- no letters of `hold` are left behind a word
pub letters_done : (read : LineSoFar) (line : List ℕ) (count : ℕ) → EndsWord read.said (Some (Letters count)) → IsLine line read → ⊥
letters_done read line count ends is =
    let said = ends is.done is.part is.row is.said is.solid in
    no_letters count said.1 said.2

pub length-rows_by : (adds : Adds) (row before : List Bool) → length (rows_by adds row before) ≡ rows_from_line adds
length-rows_by Nothing row before = refl
length-rows_by Row row before = refl
length-rows_by (Copies times) row before = length-replicate times before

few_added : (adds : Adds) (width : ℕ) (row : List Bool) → FitsWidth width adds row → rows_from_line adds ≤ 4294967295
few_added Nothing width row fits = omega arith
few_added Row width row fits = omega arith
few_added (Copies times) width row fits = fits

-- with this line there are too many rows
pub too_many_clocks : (scan : Scan) (adds : Adds) (line : List ℕ) (clocks : ℕ) (before : List Bool) → AddsRows scan adds line
    → scan.clocks ≤ 4294967295 → clocks ≡ min (scan.clocks + rows_from_line adds) (2 ^ 64 - 1) → 4294967295 < clocks
    → within_run scan.clocks (rows_added scan.width scan.number before (line_words line)) ≡ Err (TooManyClocks clocks)
too_many_clocks scan adds line clocks before is few sum many =
    let by = rows_by adds is.row before in
    let exact : scan.clocks + length by ≡ clocks = omega (length-rows_by adds is.row before, few_added adds scan.width is.row is.fits, few, sum, arith) in
    ap (within_run scan.clocks) (is.added before)
    ∙ cond-true _ _ _ (lt-ltb 4294967295 (scan.clocks + length by) (omega (exact, many, arith)))
    ∙ ap (λ n. Err (TooManyClocks n)) exact

-- the line is counted
pub counted_line : (scan : Scan) (adds : Adds) (line : List ℕ) (clocks : ℕ) → AddsRows scan adds line → scan.clocks ≤ 4294967295
    → clocks ≡ min (scan.clocks + rows_from_line adds) (2 ^ 64 - 1) → clocks ≤ 4294967295 → AddsToRun scan adds line
counted_line scan adds line clocks is few sum within = record {
  row = is.row;
  added = λ before.
      let by = rows_by adds is.row before in
      ap (within_run scan.clocks) (is.added before)
      ∙ cond-false _ _ _ (le-ltb 4294967295 (scan.clocks + length by) (omega (length-rows_by adds is.row before, few_added adds scan.width is.row is.fits, few, sum, within, arith)));
  fits = is.fits;
  bits = is.bits;
}

-- ---- the lines behind it

module _ (scan : Scan) (before : List Bool) where
  abbrev pub rows_from : List ℕ → Result (List (List Bool)) StimFault
  rows_from text = rows_of_lines scan.width scan.number scan.clocks before (text_lines text)

  -- a line with its end, and what stands behind it
  pub line_further : (adds : Adds) (line rest : List ℕ) → (is : AddsToRun scan adds line) → IsUnended line
      → rows_from (line ++ 10 ∷ rest)
      ≡ behind (rows_by adds is.row before) (rows_of_lines scan.width (scan.number + 1) (scan.clocks + rows_from_line adds) (last_row before (rows_by adds is.row before)) (text_lines rest))
  line_further adds line rest is unended =
      let by = rows_by adds is.row before in
      let further = λ (added : List (List Bool)). behind added (rows_of_lines scan.width (scan.number + 1) (scan.clocks + length added) (last_row before added) (text_lines rest)) in
      ap (rows_of_lines scan.width scan.number scan.clocks before) (line_first line rest unended)
      ∙ ap (λ said. and_then said further) (is.added before)
      ∙ ap (λ n. behind by (rows_of_lines scan.width (scan.number + 1) (scan.clocks + n) (last_row before by) (text_lines rest))) (length-rows_by adds is.row before)

  -- a line with its end, which is at fault
  pub line_at_fault : (line rest : List ℕ) (fault : StimFault) → IsUnended line
      → within_run scan.clocks (rows_added scan.width scan.number before (line_words line)) ≡ Err fault
      → rows_from (line ++ 10 ∷ rest) ≡ Err fault
  line_at_fault line rest fault unended is =
      let further = λ (added : List (List Bool)). behind added (rows_of_lines scan.width (scan.number + 1) (scan.clocks + length added) (last_row before added) (text_lines rest)) in
      ap (rows_of_lines scan.width scan.number scan.clocks before) (line_first line rest unended) ∙ ap (λ said. and_then said further) is

  -- a first line for which no words do
  pub first_bad : (text : List ℕ) → BeginsBad text → rows_from text ≡ Err (BadLine scan.number)
  first_bad text bad =
      let further = λ (added : List (List Bool)). behind added (rows_of_lines scan.width (scan.number + 1) (scan.clocks + length added) (last_row before added) bad.others) in
      ap (rows_of_lines scan.width scan.number scan.clocks before) bad.cut ∙ ap (λ said. and_then (within_run scan.clocks said) further) (bad.bad scan.width scan.number before)

  -- the last line, which has no end
  pub last_line : (line : List ℕ) (added : List (List Bool)) → IsUnended line → scan.clocks ≤ 4294967295
      → within_run scan.clocks (rows_added scan.width scan.number before (line_words line)) ≡ Ok added → rows_from line ≡ Ok added
  last_line [] added unended few is = sym (cond-false _ _ _ (le-ltb 4294967295 (scan.clocks + 0) (omega (few, arith)))) ∙ is
  last_line (b ∷ bs) added unended few is =
      let further = λ (added : List (List Bool)). behind added (rows_of_lines scan.width (scan.number + 1) (scan.clocks + length added) (last_row before added) []) in
      ap (rows_of_lines scan.width scan.number scan.clocks before) (line_alone (b ∷ bs) (omega arith) unended) ∙ ap (λ said. and_then said further) is ∙ ap Ok (append-nil added)

  pub last_line_at_fault : (line : List ℕ) (fault : StimFault) → IsUnended line → scan.clocks ≤ 4294967295
      → within_run scan.clocks (rows_added scan.width scan.number before (line_words line)) ≡ Err fault → rows_from line ≡ Err fault
  last_line_at_fault [] fault unended few is = sym (cond-false _ _ _ (le-ltb 4294967295 (scan.clocks + 0) (omega (few, arith)))) ∙ is
  last_line_at_fault (b ∷ bs) fault unended few is =
      let further = λ (added : List (List Bool)). behind added (rows_of_lines scan.width (scan.number + 1) (scan.clocks + length added) (last_row before added) []) in
      ap (rows_of_lines scan.width scan.number scan.clocks before) (line_alone (b ∷ bs) (omega arith) unended) ∙ ap (λ said. and_then said further) is
