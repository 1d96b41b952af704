-- so many clocks were copied
use Rattle.std.proofs.Common.{◌≡◌, map, take}
use Rattle.vw_trace.specs.Triggers.{but_last}
use Rattle.vw_trace.proofs.trigger.front_of.Given as goal

abbrev pub invariant-loop-place : goal.invariant-loop-place
invariant-loop-place l = record {
  outputs : l.outputs ≡ map but_last (take l.place l.fn.batch.outputs);
  states : l.states ≡ take l.place l.fn.batch.states;
}
