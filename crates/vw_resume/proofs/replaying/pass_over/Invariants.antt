-- some rows were passed over, and so many are left
use Rattle.vw_resume.proofs.PassedRows.{IsPassing}
use Rattle.vw_resume.proofs.replaying.pass_over.Given as goal

abbrev pub invariant-loop-left : goal.invariant-loop-left
invariant-loop-left g l = IsPassing l.fn.count l.left l.fn.rows l.rows

abbrev pub decreases-loop-left : goal.decreases-loop-left
decreases-loop-left g l = l.left
