-- in the microcycles so far all pins are in use
use Rattle.std.proofs.Common.{◌≡◌, ◌≤◌, ◌<◌, ◌+◌, ◌-◌, ℕ, true}
use Rattle.vw_chain.specs.Timing.{planned_of}
use Rattle.vw_report.specs.Waits.{is_full}
use Rattle.vw_report.proofs.reported.Reported.pin_wait.Given as goal

abbrev pub invariant-loop-waited : goal.invariant-loop-waited
invariant-loop-waited l = record {
  within : l.waited ≤ l.most;
  full : (number : ℕ) → number < l.waited → is_full (planned_of l.self.timed.now) l.hop (l.ready + number) ≡ true;
}

abbrev pub decreases-loop-waited : goal.decreases-loop-waited
decreases-loop-waited l = l.most - l.waited
