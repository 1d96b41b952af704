use Rattle.std.proofs.Common.{◌∙◌, sym}
use Rattle.vw_node.proofs.MovesOn.{agrees_now, fewer_tries, first_try, fits_now, try_more}
use Rattle.vw_node.proofs.node.Node.go.Goals as goal

pub loop-answer-init : goal.loop-answer-init
loop-answer-init g c = first_try c.args.self.now (g.E.Ends.seen c.args.ends.now) c.make_some-answer.new.self (g.E.Ends.seen c.make_some-answer.new.ends) c.make_some-answer.result c.make_some-answer.ensures.fits c.make_some-answer.ensures.agrees c.make_some-answer.ensures.same c.make_some-answer.ensures.makes

pub make_some-answer-requires-in-loop-answer-clause-fits : goal.make_some-answer-requires-in-loop-answer-clause-fits
make_some-answer-requires-in-loop-answer-clause-fits g c = fits_now c.args.self.now (g.E.Ends.seen c.args.ends.now) c.loop-answer.self (g.E.Ends.seen c.loop-answer.ends) c.loop-answer.answer c.loop-answer.invariant

pub make_some-answer-requires-in-loop-answer-clause-agrees : goal.make_some-answer-requires-in-loop-answer-clause-agrees
make_some-answer-requires-in-loop-answer-clause-agrees g c = agrees_now c.args.self.now (g.E.Ends.seen c.args.ends.now) c.loop-answer.self (g.E.Ends.seen c.loop-answer.ends) c.loop-answer.answer c.loop-answer.invariant

pub loop-answer-smaller : goal.loop-answer-smaller
loop-answer-smaller g c =
    fewer_tries c.args.self.now (g.E.Ends.seen c.args.ends.now) c.loop-answer.self (g.E.Ends.seen c.loop-answer.ends) c.loop-answer.answer c.loop-answer.invariant (sym c.is_moved.ensures ∙ c.loop-answer-test.true)
    c.make_some-answer-in-loop-answer.new.self (g.E.Ends.seen c.make_some-answer-in-loop-answer.new.ends) c.make_some-answer-in-loop-answer.result c.make_some-answer-in-loop-answer.ensures.fits c.make_some-answer-in-loop-answer.ensures.agrees c.make_some-answer-in-loop-answer.ensures.same c.make_some-answer-in-loop-answer.ensures.makes

pub loop-answer-preserved : goal.loop-answer-preserved
loop-answer-preserved g c =
    try_more c.args.self.now (g.E.Ends.seen c.args.ends.now) c.loop-answer.self (g.E.Ends.seen c.loop-answer.ends) c.loop-answer.answer c.loop-answer.invariant (sym c.is_moved.ensures ∙ c.loop-answer-test.true)
    c.make_some-answer-in-loop-answer.new.self (g.E.Ends.seen c.make_some-answer-in-loop-answer.new.ends) c.make_some-answer-in-loop-answer.result c.make_some-answer-in-loop-answer.ensures.fits c.make_some-answer-in-loop-answer.ensures.agrees c.make_some-answer-in-loop-answer.ensures.same c.make_some-answer-in-loop-answer.ensures.makes

pub returns-clause-fits : goal.returns-clause-fits
returns-clause-fits g c = fits_now c.args.self.now (g.E.Ends.seen c.args.ends.now) c.loop-answer.self (g.E.Ends.seen c.loop-answer.ends) c.loop-answer.answer c.loop-answer.invariant

pub returns-clause-agrees : goal.returns-clause-agrees
returns-clause-agrees g c = agrees_now c.args.self.now (g.E.Ends.seen c.args.ends.now) c.loop-answer.self (g.E.Ends.seen c.loop-answer.ends) c.loop-answer.answer c.loop-answer.invariant

pub returns-clause-same : goal.returns-clause-same
returns-clause-same g c = c.loop-answer.invariant.share

pub returns-clause-goes : goal.returns-clause-goes
returns-clause-goes g c = c.loop-answer.invariant.stopped (sym c.is_moved.ensures ∙ c.loop-answer-test.false)
