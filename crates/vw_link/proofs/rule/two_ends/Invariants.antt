use Rattle.vw_prog.specs.Scripts.{script}
use Rattle.vw_link.proofs.rule.two_ends.Given as goal

abbrev pub ghosts-cut_as : goal.ghosts-cut_as
ghosts-cut_as a = record { words = script a.job.now a.link }
