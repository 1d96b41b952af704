-- the groups so far, and then what is left
use Rattle.std.proofs.Common.{◌≡◌, ◌<◌, ◌++◌, length, All}
use Rattle.vw_fault.specs.Steps.Groups.{net_count, open_of}
use Rattle.vw_fault.proofs.workers.open_in_turn.Given as goal

abbrev pub decreases-loop-rest : goal.decreases-loop-rest
decreases-loop-rest l = length l.rest

abbrev pub invariant-loop-rest : goal.invariant-loop-rest
invariant-loop-rest l = record {
  within : All (λ fault. fault.net < net_count l.grading) l.rest;
  graded : l.left.items ++ open_of l.grading l.rest ≡ open_of l.grading l.faults;
}
