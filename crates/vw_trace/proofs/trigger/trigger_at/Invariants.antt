-- the trigger is 1 in none of the clocks so far
use Rattle.std.proofs.Common.{◌≡◌, ◌+◌, drop}
use Rattle.vw_trace.specs.Triggers.{clocks_until, fires}
use Rattle.vw_trace.proofs.trigger.trigger_at.Given as goal

abbrev pub invariant-loop-place : goal.invariant-loop-place
invariant-loop-place l = record {
  fires : fires (drop l.place l.outputs) ≡ fires l.outputs;
  clocks : l.place + clocks_until (drop l.place l.outputs) ≡ clocks_until l.outputs;
}
