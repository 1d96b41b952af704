-- The rows of tables, by their numbers.
use Rattle.std.proofs.Common.{◌≡◌, ◌<◌, ◌+◌, ◌++◌, ℕ, List, [], ◌∷◌, length, drop, get_or, slice_get, Some, ap, refl, sym, ◌∙◌, arith}
use Rattle.std.specs.Option.{option_and_then}
use Rattle.std.proofs.lemmas.List.{get_or_default}
use Rattle.std.proofs.lemmas.Option.{get_or_from_slice_get, slice_get_read}
use Rattle.vw_net.specs.declared.cover.Cover.{Cover}
use Rattle.vw_net.specs.declared.cover.Mark.{Mark}
use Rattle.vw_net.specs.declared.cover.Row.{Row}
use Rattle.vw_net.specs.Cover.{mark_at}
use Rattle.vw_net.proofs.GatheredLists.{mapped_more}
use Rattle.vw_blif.specs.Printed.{mark_byte}
use Rattle.vw_emit_text.specs.Steps.{marks_text, row_marks}

module _ (cover : Cover) (row : ℕ) (within : row < length cover.rows) where
  -- a row has a mark for each input
  pub length-row_marks : length (row_marks cover row) ≡ cover.inputs
  length-row_marks = cover.even row (record { marks = [] }) within

  -- one more mark is written
  pub marks_more : (written after whole : List ℕ) (input : ℕ) (mark : Mark) → input < cover.inputs → mark_at cover row input ≡ Some mark → after ≡ written ++ mark_byte mark ∷ []
      → written ++ marks_text (drop input (row_marks cover row)) ≡ whole → after ++ marks_text (drop (input + 1) (row_marks cover row)) ≡ whole
  marks_more written after whole input mark inside at is so_far =
      let default : Row = record { marks = [] } in
      let here : slice_get cover.rows row ≡ Some (get_or cover.rows row default) = slice_get_or cover.rows row default within in
      let its : slice_get (row_marks cover row) input ≡ Some mark = ap (option_and_then (λ (one : Row). slice_get one.marks input)) (sym here) ∙ at in
      let same : get_or (row_marks cover row) input mark ≡ mark = get_or_from_slice_get (row_marks cover row) input mark mark its in
      mapped_more mark_byte (row_marks cover row) input mark written after whole (mark_byte mark) (omega (arith, length-row_marks, inside)) (ap mark_byte (sym same)) is so_far where
        slice_get_or : (rows : List Row) (place : ℕ) (none : Row) → place < length rows → slice_get rows place ≡ Some (get_or rows place none)
        slice_get_or rows place none low = slice_get_read rows (length rows) place (get_or rows place none) refl low (get_or_default rows place none (get_or rows place none) low)
