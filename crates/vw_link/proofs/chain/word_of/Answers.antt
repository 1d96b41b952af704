use Rattle.std.proofs.Common.{ap, ◌∙◌}
use Rattle.vw_link.specs.Chains.{lifts_of}
use Rattle.vw_link.proofs.Lifts.{counted_on, hung}
use Rattle.vw_link.proofs.chain.word_of.Goals as goal

pub loop-rest-preserved : goal.loop-rest-preserved
loop-rest-preserved c =
    let step = counted_on c.args.link c.args.number _ _ _ _ _ _ _ _ _ c.loop-rest.invariant.0 (ap lifts_of c.in-Hung.is ∙ hung c.in-Hung.piece) c.deref-in-Hung.ensures c.deref.ensures c.count.ensures c.passed.ensures in
    (step.0, step.1 ∙ c.loop-rest.invariant.1)
