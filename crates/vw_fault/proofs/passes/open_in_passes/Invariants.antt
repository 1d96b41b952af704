-- what is left comes to the same faults
use Rattle.std.proofs.Common.{◌≡◌, ◌<◌, ◌-◌, All}
use Rattle.vw_fault.specs.Steps.Groups.{net_count, open_of}
use Rattle.vw_fault.proofs.passes.open_in_passes.Given as goal

abbrev pub decreases-loop-count : goal.decreases-loop-count
decreases-loop-count g l = l.grading.count - l.count

abbrev pub invariant-loop-count : goal.invariant-loop-count
invariant-loop-count g l = record {
  some : 0 < l.count;
  within : All (λ fault. fault.net < net_count l.grading) l.left.items;
  same : open_of l.grading l.left.items ≡ open_of l.grading l.fn.faults.items;
}
