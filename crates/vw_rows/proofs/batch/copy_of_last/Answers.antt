-- The last row.
use Rattle.std.proofs.Common.{◌≡◌, ◌-◌, ℕ, slice_get, ap, sym, ◌∙◌}
use Rattle.std.proofs.lemmas.Result.{IfOk-weaker}
use Rattle.vw_rows.specs.Stimulus.{last_row}
use Rattle.vw_rows.proofs.LastRows.{last_is}
use Rattle.vw_rows.proofs.batch.copy_of_last.Goals as goal

pub returns-in_default : goal.returns-in_default
returns-in_default c =
    let rows = c.args.rows.now in
    let last = last_is c.args.before.now c.row.result.now rows (sym (ap (λ (n : ℕ). slice_get rows (n - 1)) (sym c.len.ensures) ∙ c.row.ensures)) in
    IfOk-weaker c.copy_of-in_default.result (λ row. row.items ≡ c.row.result.now) (λ row. row.items ≡ last_row c.args.before.now rows) (λ row same. same ∙ sym last) c.copy_of-in_default.ensures
