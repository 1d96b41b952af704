-- the slots of the wires so far are there
use Rattle.std.proofs.Common.{drop}
use Rattle.std.specs.List.{flat_map}
use Rattle.vw_plan.specs.Sound.{hops_of}
use Rattle.vw_report.proofs.BusySlots.{AreSlotsSoFar}
use Rattle.vw_report.proofs.busy.BusyPins.of.Given as goal

abbrev pub invariant-loop-wire : goal.invariant-loop-wire
invariant-loop-wire l = AreSlotsSoFar l.busy.slots (flat_map (λ wire. wire.hops) (drop l.wire-index l.plan.wires)) (hops_of l.plan)
