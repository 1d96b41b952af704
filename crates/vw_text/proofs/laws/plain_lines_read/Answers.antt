-- Plain lines are read back.
use Rattle.vw_text.proofs.PlainLines.{lines_read}
use Rattle.vw_text.proofs.laws.plain_lines_read.Goals as goal

pub returns : goal.returns
returns c = λ lines plain. lines_read 1 lines plain
