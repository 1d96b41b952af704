use Rattle.vw_blif.specs.Printed.{plainly}
use Rattle.vw_blif.proofs.PrintedDesigns.{read_back}
use Rattle.vw_blif.proofs.laws.printed_designs_read.Goals as goal

pub returns-clause-plainly : goal.returns-clause-plainly
returns-clause-plainly c = read_back c.plain_lines_read.ensures plainly

pub returns-clause-otherwise : goal.returns-clause-otherwise
returns-clause-otherwise c = read_back c.plain_lines_read.ensures
