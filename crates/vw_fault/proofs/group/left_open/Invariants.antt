-- the faults so far, and then those that are left
use Rattle.std.proofs.Common.{◌≡◌, ◌++◌, drop}
use Rattle.vw_fault.specs.Steps.Groups.{left_open}
use Rattle.vw_fault.proofs.group.left_open.Given as goal

abbrev pub invariant-loop-lane : goal.invariant-loop-lane
invariant-loop-lane l = l.left.items ++ left_open l.seen l.lane (drop l.lane l.faults) ≡ l.initial.left.items ++ left_open l.seen 0 l.faults
