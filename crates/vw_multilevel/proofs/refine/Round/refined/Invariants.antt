-- one level less is left
use Rattle.std.proofs.Common.{length}
use Rattle.vw_multilevel.proofs.refine.Round.refined.Given as goal

abbrev pub decreases-loop-coarser : goal.decreases-loop-coarser
decreases-loop-coarser l = length l.levels.items
