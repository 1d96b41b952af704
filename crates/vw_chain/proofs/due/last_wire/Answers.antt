use Rattle.std.proofs.Common.{arith}
use Rattle.vw_chain.specs.Timing.{planned_of}
use Rattle.vw_chain.proofs.DueEnds.{all_due}
use Rattle.vw_chain.proofs.due.last_wire.Goals as goal

pub returns-clause-wires : goal.returns-clause-wires
returns-clause-wires c =
    let timed = c.args.timed.now in
    all_due (planned_of timed) timed.arrivals.now timed.arrivals_are.are c.loop-number.due.last (λ place within. c.loop-number.invariant.past place (omega (arith, within, c.loop-number-test.false)))
