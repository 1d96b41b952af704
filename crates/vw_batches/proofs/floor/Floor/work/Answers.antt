use Rattle.std.proofs.Common.{◌∙◌}
use Rattle.vw_batches.proofs.LinkWords.{job_carried}
use Rattle.vw_batches.proofs.floor.Floor.work.Goals as goal

pub returns-clause-carried : goal.returns-clause-carried
returns-clause-carried g c =
    job_carried c.args.self.now.workers c.requires c.args.board.now.job c.finish.new.self.job (c.finish.ensures.job ∙ c.in_ok-crew.ensures.job ∙ c.job.ensures)
    (g.F.Fabric.carried c.args.self.now.fabric.now) (g.F.Fabric.carried c.make.new.fabric) (g.F.Fabric.carried c.close.new.fabric) c.in_ok-crew.ensures.carried c.close.ensures.carried
