-- The lines of a text, put together again.
use Rattle.vw_text.proofs.JoinedLines.{lines_joined}
use Rattle.vw_text.proofs.laws.lines_join.Goals as goal

pub returns : goal.returns
returns c = lines_joined
