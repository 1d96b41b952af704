use Rattle.vw_plantext.proofs.OneLine.{one_first}
use Rattle.vw_plantext.proofs.laws.one_line_is_first.Goals as goal

-- of two lists of lines before a first bad line neither is longer
pub returns : goal.returns
returns c = one_first
