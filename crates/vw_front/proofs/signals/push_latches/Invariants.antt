-- what is written, and the cells that are left with their nets
use Rattle.std.proofs.Common.{◌≡◌, ◌++◌, drop}
use Rattle.vw_front.specs.Steps.LatchNames.{latch_names}
use Rattle.vw_front.proofs.signals.push_latches.Given as goal

abbrev pub invariant-loop-number : goal.invariant-loop-number
invariant-loop-number l = l.names.items ++ latch_names (drop l.number l.cells) (drop l.number l.nets) ≡ l.fn.names.items ++ latch_names l.cells l.nets
