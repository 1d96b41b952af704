use Rattle.std.proofs.lemmas.Option.{slice_get_within}
use Rattle.vw_chain.specs.Timing.{planned_of}
use Rattle.vw_chain.proofs.DueEnds.{wire_waited}
use Rattle.vw_chain.proofs.due.with_wire.Goals as goal

pub returns-then-due-arrival-clause-ends : goal.returns-then-due-arrival-clause-ends
returns-then-due-arrival-clause-ends c =
    let timed = c.args.timed.now in
    let within = slice_get_within timed.arrivals.now c.args.number c.args.arrival c.requires.arrival in
    wire_waited (planned_of timed) timed.arrivals.now timed.arrivals_are.are c.args.number c.args.arrival c.requires.arrival
