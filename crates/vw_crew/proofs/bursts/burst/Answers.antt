use Rattle.std.proofs.Common.{sym, subst}
use Rattle.vw_crew.specs.Groups.{AllAtWork}
use Rattle.vw_crew.proofs.bursts.burst.Goals as goal
use Rattle.vw_crew.proofs.bursts.burst.Goals.{else-loop-test, then-loop-test+then-are_done}

pub returns-clause-work : goal.returns-clause-work
returns-clause-work g c = elim c.loop-test.branch [
  | else-loop-test w ↦ subst AllAtWork (sym w.groups-is) c.loop.invariant.work
  | then-loop-test+then-are_done w ↦ subst AllAtWork (sym w.groups-is) w.pass.ensures.work
]
