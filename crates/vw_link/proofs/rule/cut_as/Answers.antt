use Rattle.std.proofs.Common.{subst, sym}
use Rattle.crossbeam_queue.specs.Fifo.{Forks}
use Rattle.vw_link.specs.declared.rule.View.{View}
use Rattle.vw_link.specs.Rule.{Carries, sending, taking}
use Rattle.vw_link.proofs.RuleSteps.{cuts}
use Rattle.vw_link.proofs.rule.cut_as.Goals as goal

pub another-requires-clause-rule : goal.another-requires-clause-rule
another-requires-clause-rule g c = subst (λ (pass : View). Forks Carries c.args.pass.now.id pass (sending g.S.Scripted.words 0) (taking g.S.Scripted.words 0)) (sym c.requires.fresh) (cuts c.args.pass.now.id g.S.Scripted.words)
