-- the inputs so far, and then what was there
use Rattle.std.proofs.Common.{◌≡◌, ◌++◌, take, drop}
use Rattle.vw_sim.proofs.clock.put_inputs.Given as goal

abbrev pub invariant-loop-net : goal.invariant-loop-net
invariant-loop-net l = l.values ≡ take l.net l.inputs ++ drop l.net l.initial.values
