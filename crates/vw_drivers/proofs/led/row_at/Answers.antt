use Rattle.std.proofs.Common.{◌≡◌, ℕ, List, Option, Some, length, slice_get, refl, sym, ap, ◌∙◌}
use Rattle.std.proofs.lemmas.Option.{slice_get_read}
use Rattle.vw_drivers.specs.declared.source.Source.{Source}
use Rattle.vw_drivers.specs.Drivers.{at_rows}
use Rattle.vw_drivers.proofs.led.row_at.Goals as goal

-- look-up by look-up
source_found : (rows : List (List (Option Source))) (instance number : ℕ) (row : List (Option Source)) (source : Option Source) → slice_get rows instance ≡ Some row → slice_get row number ≡ Some source
    → at_rows rows instance number ≡ source
source_found rows instance number row source first second = rw (first, second) refl

pub returns : goal.returns
returns c =
    let rows = c.args.rows.now in
    let list = c.as_slice.result.now in
    let row = c.in_ok-row.ensures.lookup in
    let source = c.in_ok-get.ensures.lookup in
    sym (source_found rows c.args.instance c.args.number c.in_ok-row.row.now c.in_ok-get.field-0.now
    (slice_get_read rows (length rows) c.args.instance c.in_ok-row.row.now refl row.3.0 row.1)
    (ap (λ (l : List (Option Source)). slice_get l c.args.number) (sym c.as_slice.ensures) ∙ slice_get_read list (length list) c.args.number c.in_ok-get.field-0.now refl source.3.0 source.1))
