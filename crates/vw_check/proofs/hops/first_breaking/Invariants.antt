-- the first fault is the first of the rest
use Rattle.std.proofs.Common.{◌≡◌, drop}
use Rattle.vw_plan.specs.PlannedBoard.{home}
use Rattle.vw_ready.specs.LeadTables.{planned_in}
use Rattle.vw_net.specs.FirstFound.{first_at}
use Rattle.vw_check.specs.Steps.Rules.{first_breaking, first_in_wire}
use Rattle.vw_check.proofs.hops.first_breaking.Given as goal

abbrev pub invariant-loop-number : goal.invariant-loop-number
invariant-loop-number l =
    first_at (λ number wire. first_in_wire l.rule l.wired.board.now l.wired.plan.now.period (home (planned_in l.wired) wire.net) number wire) l.number (drop l.number l.wired.plan.now.wires)
    ≡ first_breaking l.rule (planned_in l.wired)
