-- A text that is read piece by piece, and its rows counted.
use Rattle.std.proofs.Common.{◌≡◌, ◌<◌, ◌≤◌, ◌+◌, ◌^◌, ℕ, Bool, false, List, [], ◌++◌, length, replicate, take, drop, Result, Ok, Err, refl, sym, ◌∙◌, ap, subst, arith}
use Rattle.std.proofs.lemmas.List.{append_assoc, append-nil, length-append, length-take-le, take-append-drop}
use Rattle.vw_outside.specs.Told.{Told, absent, held, OfText}
use Rattle.vw_outside.specs.Fronts.{IsFront}
use Rattle.vw_outside.specs.Reads.{SeenShelf, Fills}
use Rattle.vw_outside.proofs.Fronts.{front_further, whole_front}
use Rattle.vw_outside.proofs.TextsTold.{OfText-from_cases}
use Rattle.vw_text.specs.Physical.{text_lines}
use Rattle.vw_rows.specs.declared.fault.StimFault.{StimFault}
use Rattle.vw_rows.specs.declared.scan.Adds.{Adds}
use Rattle.vw_rows.specs.declared.scan.Scan.{Scan}
use Rattle.vw_rows.specs.Stimulus.{line_words, rows_added, last_row, within_run, behind, rows_of_lines}
use Rattle.vw_rows.specs.Steps.Lines.{IsLine}
use Rattle.vw_rows.specs.Steps.Scans.{rows_from_line, rows_by, AddsToRun, IsReadSoFar}
use Rattle.vw_rows.specs.Steps.Counting.{IsReadFurther, IsAtFaultWith, rows_in, HasRows, HasFault}
use Rattle.vw_rows.proofs.ScannedLines.{rows_from, last_line, last_line_at_fault, length-rows_by}

-- the bytes up to a place were read, and their rows counted
pub record IsCounted (told : Told) (width at : ℕ) (scan : Scan) : Type 0 where
  pub read : List ℕ
  pub rows : List (List Bool)
  pub size : length read ≡ at
  pub front : (bytes : List ℕ) → told ≡ held bytes → IsFront read bytes
  pub present : told ≡ absent → at ≡ 0
  pub wide : scan.width ≡ width
  pub so_far : IsReadSoFar (replicate width false) 0 1 (rows_in width) read scan rows

behind_none : (said : Result (List (List Bool)) StimFault) → behind [] said ≡ said
behind_none (Ok rows) = refl
behind_none (Err fault) = refl

pub counted_at_start : (told : Told) (width : ℕ) (scan : Scan) → IsLine [] scan.line → scan.width ≡ width → scan.number ≡ 1
    → scan.clocks ≡ 0 → IsCounted told width 0 scan
counted_at_start told width scan fresh wide number clocks = record {
  read = [];
  rows = [];
  size = refl;
  front = λ bytes is. (refl, omega arith);
  present = λ is. refl;
  wide = wide;
  so_far = record {
    line = [];
    is = fresh;
    short = omega arith;
    clocks = omega (clocks, arith);
    lines = [];
    place = λ rest. refl;
    number = number;
    left = λ rest.
        sym (behind_none (rows_of_lines scan.width scan.number scan.clocks (replicate width false) (text_lines rest))
        ∙ rw (wide, number, clocks) refl);
  };
}

-- a piece more
pub counted_further : (told : Told) (width at count : ℕ) (scan new : Scan) (buffer piece : List ℕ) → piece ≡ take count buffer
    → count ≤ length buffer → at + count ≤ 1073741824
    → ((bytes : List ℕ) → told ≡ held bytes → Fills bytes at buffer count) → (told ≡ absent → ⊥) → IsReadFurther piece scan new
    → new.width ≡ scan.width → IsCounted told width at scan → IsCounted told width (at + count) new
counted_further told width at count scan new buffer piece is within limit fills there reads wide counted =
    let long : length piece ≡ count = ap (λ (bs : List ℕ). length bs) is ∙ length-take-le count buffer within in
    let r = reads (replicate width false) 0 1 (rows_in width) counted.read counted.rows counted.so_far (omega (long, counted.size, limit, arith)) in
    record {
      read = counted.read ++ piece;
      rows = r.0;
      size = omega (long, counted.size, length-append counted.read piece, arith);
      front = λ bytes told_is.
          let filled = subst (λ (n : ℕ). Fills bytes n buffer count) (sym counted.size) (fills bytes told_is) in
          let further = front_further counted.read buffer [] bytes count (counted.front bytes told_is) filled within in
          subst (λ (bs : List ℕ). IsFront (counted.read ++ bs) bytes) (ap (take count) (append-nil buffer) ∙ sym is) further;
      present = λ absent_is. absurd (there absent_is);
      wide = wide ∙ counted.wide;
      so_far = r.1;
    }

-- all bytes were read
whole_read : (told : Told) (width at : ℕ) (scan : Scan) (buffer bytes : List ℕ) (count : ℕ) → 0 < length buffer → count ≡ 0
    → told ≡ held bytes → Fills bytes at buffer count → (counted : IsCounted told width at scan) → counted.read ≡ bytes
whole_read told width at scan buffer bytes count room none told_is fills counted =
    whole_front counted.read buffer bytes count (counted.front bytes told_is) (subst (λ (n : ℕ). Fills bytes n buffer count) (sym counted.size) fills) room none

-- the rows of the whole text
pub rows_counted : (told : Told) (width at count clocks : ℕ) (scan : Scan) (adds : Adds) (buffer : List ℕ) → 0 < length buffer → count ≡ 0
    → at ≤ 1073741824 → scan.clocks ≤ 4294967295
    → ((bytes : List ℕ) → told ≡ held bytes → Fills bytes at buffer count) → (told ≡ absent → ⊥)
    → ((line : List ℕ) → IsLine line scan.line → AddsToRun scan adds line) → clocks ≡ scan.clocks + rows_from_line adds
    → IsCounted told width at scan → OfText told (λ text. HasRows width text clocks)
rows_counted told width at count clocks scan adds buffer room none limit few fills there ends sum counted =
    OfText-from_cases told (λ text. HasRows width text clocks) counted.read has there
    (λ bytes told_is. subst (λ (text : List ℕ). HasRows width text clocks) (whole_read told width at scan buffer bytes count room none told_is (fills bytes told_is) counted) has)
  where
    has : HasRows width counted.read clocks
    has =
        let so = counted.so_far in
        let before = last_row (replicate width false) counted.rows in
        let added = ends so.line so.is in
        let by = rows_by adds added.row before in
        record {
          rows = counted.rows ++ by;
          are =
              ap (rows_in width) (sym (append-nil counted.read)) ∙ so.left [] ∙ ap (λ (text : List ℕ). behind counted.rows (rows_from scan before text)) (append-nil so.line)
              ∙ ap (behind counted.rows) (last_line scan before so.line by so.is.unended few (added.added before));
          count = omega (sum, so.clocks, length-append counted.rows by, length-rows_by adds added.row before, arith);
          short = omega (counted.size, limit, arith);
        }

-- the last line of the text is at fault
pub last_at_fault : (told : Told) (width at count : ℕ) (scan : Scan) (fault : StimFault) (buffer : List ℕ) → 0 < length buffer → count ≡ 0
    → at ≤ 1073741824 → scan.clocks ≤ 4294967295
    → ((bytes : List ℕ) → told ≡ held bytes → Fills bytes at buffer count) → (told ≡ absent → ⊥)
    → ((line : List ℕ) → IsLine line scan.line → length line < 2 ^ 63 → (before : List Bool) → within_run scan.clocks (rows_added scan.width scan.number before (line_words line)) ≡ Err fault)
    → IsCounted told width at scan → OfText told (λ text. HasFault width text fault)
last_at_fault told width at count scan fault buffer room none limit few fills there ends counted =
    OfText-from_cases told (λ text. HasFault width text fault) counted.read has there
    (λ bytes told_is. subst (λ (text : List ℕ). HasFault width text fault) (whole_read told width at scan buffer bytes count room none told_is (fills bytes told_is) counted) has)
  where
    has : HasFault width counted.read fault
    has =
        let so = counted.so_far in
        let before = last_row (replicate width false) counted.rows in
        record {
          is =
              ap (rows_in width) (sym (append-nil counted.read)) ∙ so.left [] ∙ ap (λ (text : List ℕ). behind counted.rows (rows_from scan before text)) (append-nil so.line)
              ∙ ap (behind counted.rows) (last_line_at_fault scan before so.line fault so.is.unended few (ends so.line so.is (omega (so.short, counted.size, limit, arith)) before));
          short = omega (counted.size, limit, arith);
        }

-- a line of a piece is at fault
pub piece_at_fault : (told : Told) (width at count : ℕ) (scan : Scan) (fault : StimFault) (buffer piece : List ℕ)
    → piece ≡ take count buffer → count ≤ length buffer → at + count ≤ 1073741824
    → ((bytes : List ℕ) → told ≡ held bytes → length bytes ≤ 1073741824)
    → ((bytes : List ℕ) → told ≡ held bytes → Fills bytes at buffer count) → (told ≡ absent → ⊥)
    → IsAtFaultWith piece scan fault → IsCounted told width at scan → OfText told (λ text. HasFault width text fault)
piece_at_fault told width at count scan fault buffer piece is within limit short fills there at_fault counted =
    OfText-from_cases told (λ text. HasFault width text fault) (counted.read ++ (piece ++ [])) (has [] (omega (long, counted.size, limit, length-append counted.read (piece ++ []), length-append piece [], arith))) there in_bytes
  where
    long : length piece ≡ count
    long = ap (λ (bs : List ℕ). length bs) is ∙ length-take-le count buffer within

    has : (rest : List ℕ) → length (counted.read ++ (piece ++ rest)) ≤ 1073741824 → HasFault width (counted.read ++ (piece ++ rest)) fault
    has rest small = record {
      is = at_fault (replicate width false) 0 1 (rows_in width) counted.read counted.rows counted.so_far (omega (long, counted.size, limit, arith)) rest;
      short = small;
    }

    in_bytes : (bytes : List ℕ) → told ≡ held bytes → HasFault width bytes fault
    in_bytes bytes told_is =
        let filled = subst (λ (n : ℕ). Fills bytes n buffer count) (sym counted.size) (fills bytes told_is) in
        let further = front_further counted.read buffer [] bytes count (counted.front bytes told_is) filled within in
        let front = subst (λ (bs : List ℕ). IsFront (counted.read ++ bs) bytes) (ap (take count) (append-nil buffer) ∙ sym is) further in
        let n = length (counted.read ++ piece) in
        let same : counted.read ++ (piece ++ drop n bytes) ≡ bytes =
        sym (append_assoc counted.read piece (drop n bytes)) ∙ ap (λ (bs : List ℕ). bs ++ drop n bytes) front.0 ∙ take-append-drop n bytes in
        subst (λ (text : List ℕ). HasFault width text fault) same (has (drop n bytes) (subst (λ (bs : List ℕ). length bs ≤ 1073741824) (sym same) (short bytes told_is)))

-- what is told of a name is the same of equal shelves
pub told_same : (before now : SeenShelf) (name : List ℕ) (what : Told) → now ≡ before → before.told name ≡ what → now.told name ≡ what
told_same before now name what same told = ap (λ (shelf : SeenShelf). shelf.told name) same ∙ told
