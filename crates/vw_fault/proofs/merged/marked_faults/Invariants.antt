-- the faults so far, and then what is left of them
use Rattle.std.proofs.Common.{◌≡◌, ◌++◌, drop, filter}
use Rattle.vw_fault.specs.Steps.Reaching.{is_marked}
use Rattle.vw_fault.proofs.merged.marked_faults.Given as goal

abbrev pub invariant-loop-fault : goal.invariant-loop-fault
invariant-loop-fault l = l.marked.items ++ filter (λ fault. is_marked l.marks fault.net) (drop l.fault-index l.faults) ≡ filter (λ fault. is_marked l.marks fault.net) l.faults
