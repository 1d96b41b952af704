use Rattle.vw_blif.proofs.CutLines.{is_cut, is_only}
use Rattle.vw_blif.proofs.laws.lines_are_cut.Goals as goal

pub returns-clause-cut : goal.returns-clause-cut
returns-clause-cut c = is_cut

pub returns-clause-only : goal.returns-clause-only
returns-clause-only c = is_only
