use Rattle.vw_short_bound.proofs.BitRows.{add_has}
use Rattle.vw_short_bound.proofs.rows.add.Goals as goal

pub returns-then-place-row-clause-bits : goal.returns-then-place-row-clause-bits
returns-then-place-row-clause-bits c = add_has c.args.row.now c.args.place c.if-place-row.true
