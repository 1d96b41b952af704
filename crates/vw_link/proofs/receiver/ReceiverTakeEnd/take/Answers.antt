use Rattle.std.proofs.Common.{ap, subst, sym, ◌∙◌}
use Rattle.vw_link.specs.declared.rule.View.{View}
use Rattle.vw_link.specs.Ends.{Keeps}
use Rattle.vw_link.proofs.RuleSteps.{takes}
use Rattle.vw_link.proofs.receiver.ReceiverTakeEnd.take.Goals as goal

pub pop_as-requires-clause-rule : goal.pop_as-requires-clause-rule
pop_as-requires-clause-rule g c = (takes _ _ c.self.invariant.1, λ _ _ _ _. tt)

pub invariant_of-self : goal.invariant_of-self
invariant_of-self g c =
    let step = c.in-Some.ensures.rule in
    let same = c.in-Some.ensures.queue in (
      (same.0 ∙ c.self.invariant.0.0, same.2 ∙ c.self.invariant.0.1),
      ap (λ (pass : View). pass.takes) step.1 ∙ c.self.invariant.1,
      subst (λ (pass : View). Keeps c.self.inside.link pass c.keep.new.kept) (sym step.1) (c.keep.ensures.kept c.self.inside.link _ step.0 c.self.invariant.2),
    )
