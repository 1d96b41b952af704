-- the part that is left gets shorter, and lies within the spots
use Rattle.std.proofs.Common.{◌≤◌, ◌-◌, length}
use Rattle.vw_short_bound.proofs.inlets.place_of.Given as goal

abbrev pub invariant-loop-low : goal.invariant-loop-low
invariant-loop-low l = l.high ≤ length l.spots

abbrev pub decreases-loop-low : goal.decreases-loop-low
decreases-loop-low l = l.high - l.low
