-- the wires so far are shortest
use Rattle.std.proofs.Common.{◌≡◌, ◌<◌, ℕ, length, get_or}
use Rattle.vw_plan.specs.declared.wire.Wire.{Wire}
use Rattle.vw_plan.specs.Distance.{distance}
use Rattle.vw_plan.specs.PlannedBoard.{home}
use Rattle.vw_chain.specs.Timing.{planned_of}
use Rattle.vw_report.proofs.reported.Reported.is_short.Given as goal

abbrev pub invariant-loop-wire : goal.invariant-loop-wire
invariant-loop-wire l =
    let planned = planned_of l.self.timed.now in
    (place : ℕ) (default : Wire) → place < l.wire-index → length (get_or planned.plan.wires place default).hops ≡ distance planned.board (home planned (get_or planned.plan.wires place default).net) (get_or planned.plan.wires place default).to
