-- the level that was taken off the list isn't put back
use Rattle.std.proofs.Common.{arith}
use Rattle.vw_multilevel.proofs.refine.Round.refined.Goals as goal

pub loop-coarser-smaller : goal.loop-coarser-smaller
loop-coarser-smaller c = omega (arith, c.in-Some.ensures.len)
