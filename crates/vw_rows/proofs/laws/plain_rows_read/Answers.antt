use Rattle.vw_rows.proofs.PlainRows.{rows_again}
use Rattle.vw_rows.proofs.laws.plain_rows_read.Goals as goal

pub returns : goal.returns
returns c = rows_again
