-- the faults so far, and what is left of the others
use Rattle.std.proofs.Common.{◌≡◌, ◌≤◌, ◌++◌, ◌||◌, not, Bool, drop, filter}
use Rattle.vw_fault.specs.declared.open.Open.{Open}
use Rattle.vw_fault.specs.Steps.Reaching.{is_marked}
use Rattle.vw_fault.proofs.merged.with_unmarked.Given as goal

abbrev pub invariant-loop-fault : goal.invariant-loop-fault
invariant-loop-fault l = record {
  passed : l.next ≤ l.fault-index;
  each : (test : Open → Bool) → l.left ≡ filter test (filter (λ fault. is_marked l.marks fault.net) l.faults)
      → (drop l.next l.left ≡ filter test (filter (λ fault. is_marked l.marks fault.net) (drop l.fault-index l.faults)))
      × (l.all.items ++ filter (λ fault. not (is_marked l.marks fault.net) || test fault) (drop l.fault-index l.faults) ≡ filter (λ fault. not (is_marked l.marks fault.net) || test fault) l.faults);
}
