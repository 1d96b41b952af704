-- what is gone back to rests on gates before the place alone, or on none that waits
use Rattle.std.proofs.Common.{◌≡◌, ◌⊎◌, true, take}
use Rattle.vw_net.specs.Order.{is_ready}
use Rattle.vw_plan.specs.PlannedBoard.{home}
use Rattle.vw_chain.specs.Steps.{IsFirst, LeadsOn}
use Rattle.vw_chain.specs.Timing.{IsNet, planned_of}
use Rattle.vw_chain.proofs.timed.Timed.back_to_first.Given as goal

abbrev pub invariant-loop-place : goal.invariant-loop-place
invariant-loop-place l =
    let planned = planned_of l.self in
    let flat = planned.ordered.flat in
    record {
      net : IsNet l.self l.first;
      ready : (is_ready flat.inputs flat.cells (take l.place planned.ordered.order) l.first ≡ true) ⊎ IsFirst planned l.first;
      way : LeadsOn planned l.fn.steps.items l.net (home planned l.net) l.steps.items l.first (home planned l.first);
    }
