use Rattle.vw_plantext.proofs.Spellings.{spelling_same}
use Rattle.vw_plantext.proofs.laws.spellings_differ.Goals as goal

-- line after line, the words and the numbers are the same
pub returns : goal.returns
returns c = spelling_same
