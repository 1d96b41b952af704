use Rattle.std.proofs.Common.{ap, ◌∙◌}
use Rattle.vw_link.specs.Chains.{lifts_of}
use Rattle.vw_link.proofs.Lifts.{hung, on_ended, on_older, on_reached}
use Rattle.vw_link.proofs.chain.passed.Goals as goal
use Rattle.vw_link.proofs.chain.passed.Goals.{in-Hung+then-counted-from, in_default}

pub loop-from-preserved : goal.loop-from-preserved
loop-from-preserved c = on_older c.args.link c.args.number (lifts_of c.args.from.now) c.args.counted _ _ _ _ _ _ _ c.loop-from.invariant (ap lifts_of c.in-Hung.is ∙ hung c.in-Hung.piece) c.deref.ensures c.deref-in-Hung.ensures c.count-count.ensures c.from.ensures c.if-counted-from.false

pub returns : goal.returns
returns c = elim c.match-from.branch [
  | in-Hung+then-counted-from w ↦ on_reached c.args.link c.args.number (lifts_of c.args.from.now) c.args.counted _ _ _ _ _ _ c.loop-from.invariant (ap lifts_of w.in-Hung.is ∙ hung w.in-Hung.piece) w.deref.ensures w.count-count.ensures w.from.ensures w.if-counted-from.true c.ranges.number.fits w.count-count.type_inv
  | in_default w ↦ on_ended c.args.link c.args.number (lifts_of c.args.from.now) c.args.counted (lifts_of c.loop-from.from.now) c.loop-from.counted c.loop-from.invariant (ap lifts_of w.in_default.is)
]
