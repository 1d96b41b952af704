-- the pins so far are in use
use Rattle.std.proofs.Common.{◌≡◌, ◌<◌, ℕ, true}
use Rattle.vw_plan.specs.Earliest.{is_in_use}
use Rattle.vw_chain.specs.Timing.{planned_of}
use Rattle.vw_report.specs.Waits.{moved}
use Rattle.vw_report.proofs.reported.Reported.is_full.Given as goal

abbrev pub invariant-loop-pin : goal.invariant-loop-pin
invariant-loop-pin l = (pin : ℕ) → pin < l.pin → is_in_use (planned_of l.self.timed.now).plan (moved l.hop pin l.at) ≡ true
