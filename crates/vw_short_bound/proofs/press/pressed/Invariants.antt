-- what the places from here on have shown
use Rattle.std.proofs.Common.{◌≤◌, ◌<◌, ◌+◌, ◌^◌, length}
use Rattle.vw_short_bound.specs.Steps.Pressed.{IsPressSoFar}
use Rattle.vw_short_bound.proofs.press.pressed.Given as goal

abbrev pub invariant-loop-place : goal.invariant-loop-place
invariant-loop-place l = record {
  shown : IsPressSoFar l.times l.row l.members l.pins l.place l.count l.from l.least;
  few : l.count + l.place ≤ length l.times;
  low : l.from < 2 ^ 63;
}
