-- the slots of the hops so far are there
use Rattle.std.proofs.Common.{List, ◌++◌, drop}
use Rattle.vw_plan.specs.declared.wire.Hop.{Hop}
use Rattle.vw_report.specs.Steps.Busy.{HasSlots}
use Rattle.vw_report.proofs.BusySlots.{AreSlotsSoFar}
use Rattle.vw_report.proofs.busy.BusyPins.add_all.Given as goal

abbrev pub invariant-loop-hop : goal.invariant-loop-hop
invariant-loop-hop l = (hops : List Hop) → HasSlots hops l.fn.self.slots → AreSlotsSoFar l.self.slots (drop l.hop-index l.hops) (hops ++ l.hops)
