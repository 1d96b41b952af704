-- none so far is the loop of the pin
use Rattle.std.proofs.Common.{◌≡◌, ◌+◌, drop}
use Rattle.vw_prog.specs.Loops.{loop_place}
use Rattle.vw_prog.proofs.shift.loop_place.Given as goal

abbrev pub invariant-loop-place : goal.invariant-loop-place
invariant-loop-place l = l.place + loop_place l.link l.pin (drop l.place l.loops) ≡ loop_place l.link l.pin l.loops
