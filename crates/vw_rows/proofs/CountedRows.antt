-- Bytes that are read further.
use Rattle.std.proofs.Common.{◌≡◌, ◌<◌, ◌+◌, ◌^◌, ℕ, Bool, List, [], ◌∷◌, ◌++◌, length, take, drop, Result, Err, refl, sym, ◌∙◌, ap, ap₂, subst, arith}
use Rattle.std.proofs.lemmas.List.{append_assoc, append-nil, length-append, take-append-drop, take_at}
use Rattle.vw_text.specs.Physical.{text_lines}
use Rattle.vw_text.proofs.FirstLine.{line_first}
use Rattle.vw_rows.specs.declared.fault.StimFault.{StimFault}
use Rattle.vw_rows.specs.declared.line_so_far.LineSoFar.{LineSoFar}
use Rattle.vw_rows.specs.declared.scan.Adds.{Adds}
use Rattle.vw_rows.specs.declared.scan.Scan.{Scan}
use Rattle.vw_rows.specs.Stimulus.{line_words, rows_added, last_row, within_run, behind, rows_of_lines}
use Rattle.vw_rows.specs.Steps.Lines.{IsLine, GoesOnBy, IsBadBehind, EndsBy}
use Rattle.vw_rows.specs.Steps.Scans.{rows_from_line, rows_by, AddsToRun, IsReadSoFar}
use Rattle.vw_rows.specs.Steps.Counting.{IsReadFurther, IsAtFaultWith}
use Rattle.vw_rows.proofs.LastRows.{last_row-append, behind-behind}
use Rattle.vw_rows.proofs.ScannedLines.{rows_from, length-rows_by, line_further, line_at_fault, first_bad}

-- the scan with another line
abbrev pub with_line : Scan → LineSoFar → Scan
with_line scan line = record { line = line; width = scan.width; number = scan.number; clocks = scan.clocks }

-- the line goes on, with the same rows before it
pub further_in : (bytes : List ℕ) (first : List Bool) (base start : ℕ) (total : List ℕ → Result (List (List Bool)) StimFault) (read : List ℕ) (rows : List (List Bool)) (scan : Scan) (line : LineSoFar)
    → GoesOnBy bytes scan.line line → (so : IsReadSoFar first base start total read scan rows)
    → (new : IsReadSoFar first base start total (read ++ bytes) (with_line scan line) rows) × (length new.line ≡ length so.line + length bytes)
further_in bytes first base start total read rows scan line goes so = (
  record {
    line = so.line ++ bytes;
    is = goes.line so.line so.is;
    short = omega (so.short, length-append so.line bytes, length-append read bytes, arith);
    clocks = so.clocks;
    lines = so.lines;
    place = λ rest. ap text_lines (append_assoc read bytes rest) ∙ so.place (bytes ++ rest) ∙ ap (λ (text : List ℕ). so.lines ++ text_lines text) (sym (append_assoc so.line bytes rest));
    number = so.number;
    left = λ rest.
        ap total (append_assoc read bytes rest) ∙ so.left (bytes ++ rest)
        ∙ ap (λ (text : List ℕ). behind rows (rows_from scan (last_row first rows) text)) (sym (append_assoc so.line bytes rest));
  },
  length-append so.line bytes,
)

pub goes_further_in : (bytes : List ℕ) (scan : Scan) (line : LineSoFar) → GoesOnBy bytes scan.line line → IsReadFurther bytes scan (with_line scan line)
goes_further_in bytes scan line goes first base start total read rows so short = (rows, (further_in bytes first base start total read rows scan line goes so).0)

-- the front of a piece up to the end of a line
pub front_taken : (piece front : List ℕ) (count : ℕ) → piece ≡ front ++ 10 ∷ drop count piece → count ≡ length front + 1 → take count piece ≡ front ++ 10 ∷ []
front_taken piece front count cut long =
    let whole : piece ≡ (front ++ 10 ∷ []) ++ drop count piece = cut ∙ sym (append_assoc front (10 ∷ []) (drop count piece)) in
    let size : length (front ++ 10 ∷ []) ≡ count = length-append front (10 ∷ []) ∙ sym long in
    ap (take count) whole ∙ ap (λ (n : ℕ). take n ((front ++ 10 ∷ []) ++ drop count piece)) (sym size) ∙ take_at (front ++ 10 ∷ []) (drop count piece) (length (front ++ 10 ∷ [])) refl

-- the line has ended and is counted, and the next begins
pub begins_next : (front : List ℕ) (first : List Bool) (base start : ℕ) (total : List ℕ → Result (List (List Bool)) StimFault) (read : List ℕ) (rows : List (List Bool)) (scan : Scan) (line : LineSoFar) (adds : Adds) (new : Scan)
    → (so : IsReadSoFar first base start total read scan rows) → IsLine (so.line ++ front) line
    → (added : AddsToRun (with_line scan line) adds (so.line ++ front))
    → IsLine [] new.line → new.width ≡ scan.width → new.number ≡ scan.number + 1 → new.clocks ≡ scan.clocks + rows_from_line adds
    → (next : IsReadSoFar first base start total (read ++ (front ++ 10 ∷ [])) new (rows ++ rows_by adds added.row (last_row first rows))) × (length next.line ≡ 0)
begins_next front first base start total read rows scan line adds new so is added fresh width number clocks =
    let before = last_row first rows in
    let by = rows_by adds added.row before in
    let whole : (rest : List ℕ) → (read ++ (front ++ 10 ∷ [])) ++ rest ≡ read ++ (front ++ 10 ∷ rest) =
    λ rest. append_assoc read (front ++ 10 ∷ []) rest ∙ ap (λ (bs : List ℕ). read ++ bs) (append_assoc front (10 ∷ []) rest) in
    let left : (rest : List ℕ) → total ((read ++ (front ++ 10 ∷ [])) ++ rest) ≡ behind (rows ++ by) (rows_of_lines new.width new.number new.clocks (last_row first (rows ++ by)) (text_lines rest)) =
    λ rest.
    ap total (whole rest)
    ∙ so.left (front ++ 10 ∷ rest)
    ∙ ap (λ (text : List ℕ). behind rows (rows_from scan before text)) (sym (append_assoc so.line front (10 ∷ rest)))
    ∙ ap (behind rows) (line_further (with_line scan line) before adds (so.line ++ front) rest added is.unended)
    ∙ behind-behind rows by (rows_of_lines scan.width (scan.number + 1) (scan.clocks + rows_from_line adds) (last_row before by) (text_lines rest))
    ∙ ap (λ (row : List Bool). behind (rows ++ by) (rows_of_lines scan.width (scan.number + 1) (scan.clocks + rows_from_line adds) row (text_lines rest))) (sym (last_row-append first rows by))
    ∙ sym (ap (λ (n : ℕ). behind (rows ++ by) (rows_of_lines n new.number new.clocks (last_row first (rows ++ by)) (text_lines rest))) width
    ∙ ap₂ (λ (n m : ℕ). behind (rows ++ by) (rows_of_lines scan.width n m (last_row first (rows ++ by)) (text_lines rest))) number clocks) in (
      record {
        line = [];
        is = fresh;
        short = omega arith;
        clocks = omega (clocks, so.clocks, length-append rows by, length-rows_by adds added.row before, arith);
        lines = so.lines ++ (so.line ++ front) ∷ [];
        place = λ rest.
            ap text_lines (whole rest) ∙ so.place (front ++ 10 ∷ rest)
            ∙ ap (λ (text : List ℕ). so.lines ++ text_lines text) (sym (append_assoc so.line front (10 ∷ rest)))
            ∙ ap (λ (ls : List (List ℕ)). so.lines ++ ls) (line_first (so.line ++ front) rest is.unended)
            ∙ sym (append_assoc so.lines ((so.line ++ front) ∷ []) (text_lines rest));
        number = omega (number, so.number, length-append so.lines ((so.line ++ front) ∷ []), arith);
        left = left;
      },
      refl,
    )

-- the same behind a piece
pub ends_and_begins : (piece : List ℕ) (count : ℕ) (scan : Scan) (line : LineSoFar) (adds : Adds) (new : Scan) → EndsBy piece count scan.line line
    → ((whole : List ℕ) → IsLine whole line → AddsToRun (with_line scan line) adds whole)
    → IsLine [] new.line → new.width ≡ scan.width → new.number ≡ scan.number + 1 → new.clocks ≡ scan.clocks + rows_from_line adds
    → IsReadFurther (take count piece) scan new
ends_and_begins piece count scan line adds new ends adds_rows fresh width number clocks first base start total read rows so short =
    let is = ends.goes.line so.line so.is in
    let added = adds_rows (so.line ++ ends.front) is in
    let more = rows ++ rows_by adds added.row (last_row first rows) in (
      more,
      subst (λ (bs : List ℕ). IsReadSoFar first base start total (read ++ bs) new more) (sym (front_taken piece ends.front count ends.cut ends.long))
          (begins_next ends.front first base start total read rows scan line adds new so is added fresh width number clocks).0,
    )

-- a line that is bad
pub bad_in : (piece : List ℕ) (scan : Scan) (fault : StimFault) → IsBadBehind piece scan.number scan.line fault → IsAtFaultWith piece scan fault
bad_in piece scan fault bad first base start total read rows so short rest =
    so.left (piece ++ rest) ∙ ap (behind rows) (first_bad scan (last_row first rows) (so.line ++ (piece ++ rest)) (bad.line so.line so.is rest) ∙ ap Err (sym bad.is))

-- a line that has ended and is at fault
pub ends_at_fault : (piece : List ℕ) (count : ℕ) (scan : Scan) (line : LineSoFar) (fault : StimFault) → EndsBy piece count scan.line line
    → ((whole : List ℕ) → IsLine whole line → length whole < 2 ^ 63 → (before : List Bool) → within_run scan.clocks (rows_added scan.width scan.number before (line_words whole)) ≡ Err fault)
    → IsAtFaultWith piece scan fault
ends_at_fault piece count scan line fault ends at_fault first base start total read rows so short rest =
    let front = ends.front in
    let is = ends.goes.line so.line so.is in
    let before = last_row first rows in
    let behind_it = drop count piece ++ rest in
    let small : length (so.line ++ front) < 2 ^ 63 = omega (so.short, short, length-append so.line front, ap (λ (bs : List ℕ). length bs) ends.cut, length-append front (10 ∷ drop count piece), arith) in
    let cut : so.line ++ (piece ++ rest) ≡ (so.line ++ front) ++ 10 ∷ behind_it =
    ap (λ (bs : List ℕ). so.line ++ (bs ++ rest)) ends.cut ∙ ap (λ (bs : List ℕ). so.line ++ bs) (append_assoc front (10 ∷ drop count piece) rest) ∙ sym (append_assoc so.line front (10 ∷ behind_it)) in
    so.left (piece ++ rest) ∙ ap (λ (text : List ℕ). behind rows (rows_from scan before text)) cut
    ∙ ap (behind rows) (line_at_fault scan before (so.line ++ front) behind_it fault is.unended (at_fault (so.line ++ front) is small before))

-- nothing was read
pub reads_nothing : (scan : Scan) → IsReadFurther [] scan scan
reads_nothing scan first base start total read rows so short = (rows, subst (λ (bs : List ℕ). IsReadSoFar first base start total bs scan rows) (sym (append-nil read)) so)

-- bytes, and others behind them
pub reads_on : (first_ second both : List ℕ) (old mid new : Scan) → both ≡ first_ ++ second → IsReadFurther first_ old mid
    → IsReadFurther second mid new → IsReadFurther both old new
reads_on first_ second both old mid new whole one two first base start total read rows so short =
    let long : length both ≡ length first_ + length second = ap (λ (bs : List ℕ). length bs) whole ∙ length-append first_ second in
    let r = one first base start total read rows so (omega (long, short, arith)) in
    let s = two first base start total (read ++ first_) r.0 r.1 (omega (long, short, length-append read first_, arith)) in
    (s.0, subst (λ (bs : List ℕ). IsReadSoFar first base start total bs new s.0) (append_assoc read first_ second ∙ ap (λ (bs : List ℕ). read ++ bs) (sym whole)) s.1)

-- bytes, and then a fault
pub fault_behind : (front piece whole behind_it : List ℕ) (old mid : Scan) (fault : StimFault) → whole ≡ front ++ (piece ++ behind_it)
    → IsReadFurther front old mid → IsAtFaultWith piece mid fault → IsAtFaultWith whole old fault
fault_behind front piece whole behind_it old mid fault cut reads at_fault first base start total read rows so short rest =
    let long : length whole ≡ length front + (length piece + length behind_it) = ap (λ (bs : List ℕ). length bs) cut ∙ length-append front (piece ++ behind_it) ∙ ap (λ (n : ℕ). length front + n) (length-append piece behind_it) in
    let r = reads first base start total read rows so (omega (long, short, arith)) in
    let same : (read ++ front) ++ (piece ++ (behind_it ++ rest)) ≡ read ++ (whole ++ rest) =
    append_assoc read front (piece ++ (behind_it ++ rest))
    ∙ ap (λ (bs : List ℕ). read ++ bs) (ap (λ (bs : List ℕ). front ++ bs) (sym (append_assoc piece behind_it rest)) ∙ sym (append_assoc front (piece ++ behind_it) rest) ∙ ap (λ (bs : List ℕ). bs ++ rest) (sym cut)) in
    sym (ap total same) ∙ at_fault first base start total (read ++ front) r.0 r.1 (omega (long, short, length-append read front, arith)) (behind_it ++ rest)

-- a part of a piece was read, and this is left
pub record IsReadPart (piece rest : List ℕ) (old new : Scan) : Type 0 where
  pub gone : List ℕ
  pub cut : piece ≡ gone ++ rest
  pub reads : IsReadFurther gone old new

pub part_at_start : (piece : List ℕ) (scan : Scan) → IsReadPart piece piece scan scan
part_at_start piece scan = record { gone = []; cut = refl; reads = reads_nothing scan }

pub part_further : (piece rest after : List ℕ) (count : ℕ) (old mid new : Scan) → after ≡ drop count rest → IsReadPart piece rest old mid
    → IsReadFurther (take count rest) mid new → IsReadPart piece after old new
part_further piece rest after count old mid new is part reads = record {
  gone = part.gone ++ take count rest;
  cut = part.cut ∙ ap (λ (bs : List ℕ). part.gone ++ bs) (sym (take-append-drop count rest) ∙ ap (λ (bs : List ℕ). take count rest ++ bs) (sym is)) ∙ sym (append_assoc part.gone (take count rest) after);
  reads = reads_on part.gone (take count rest) (part.gone ++ take count rest) old mid new refl part.reads reads;
}

pub part_at_end : (piece rest : List ℕ) (old new : Scan) → length rest ≡ 0 → IsReadPart piece rest old new → IsReadFurther piece old new
part_at_end piece rest old new none part =
    let empty : rest ≡ [] = by rest none in
    subst (λ (bs : List ℕ). IsReadFurther bs old new) (sym (part.cut ∙ ap (λ (bs : List ℕ). part.gone ++ bs) empty ∙ append-nil part.gone)) part.reads
  where
    by : (list : List ℕ) → length list ≡ 0 → list ≡ []
    by [] e = refl
    by (b ∷ bs) e = absurd (omega (e, arith))

pub part_at_fault : (piece rest : List ℕ) (old mid : Scan) (fault : StimFault) → IsReadPart piece rest old mid
    → IsAtFaultWith rest mid fault → IsAtFaultWith piece old fault
part_at_fault piece rest old mid fault part at_fault =
    fault_behind part.gone rest piece [] old mid fault (part.cut ∙ ap (λ (bs : List ℕ). part.gone ++ bs) (sym (append-nil rest))) part.reads at_fault
