use Rattle.std.proofs.Common.{◌≡◌, ◌∙◌, List, length, All, ap, subst, sym}
use Rattle.vw_net.specs.declared.cover.Row.{Row}
use Rattle.vw_merge.proofs.ListEnds.{all_more}
use Rattle.vw_merge.proofs.table.rows_where.Goals as goal
use Rattle.vw_merge.proofs.table.rows_where.Goals.{then-has_row+in_ok-row+in_ok-push, else-has_row}

-- a row more, or none
pub loop-place-preserved : goal.loop-place-preserved
loop-place-preserved c =
    let Even : Row → Type 0 = λ row. length row.marks ≡ c.args.inputs in
    elim c.if-has_row.branch [
      | then-has_row+in_ok-row+in_ok-push w ↦ all_more Even c.loop-place.rows.items c.if-has_row.rows.items _ c.loop-place.invariant w.in_ok-row.ensures (ap (λ v. v.items) w.rows-is ∙ w.in_ok-push.ensures.items)
      | else-has_row w ↦ subst (λ (rows : List Row). All Even rows) (sym (ap (λ v. v.items) w.rows-is)) c.loop-place.invariant
    ]
