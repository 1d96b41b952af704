-- the least so far
use Rattle.std.proofs.Common.{◌<◌, ◌≤◌, ℕ, length}
use Rattle.std.specs.Prelude.{slice_index}
use Rattle.vw_order.proofs.circle.least_place.Given as goal

abbrev pub invariant-loop-place : goal.invariant-loop-place
invariant-loop-place l =
    (l.least < length l.numbers) × ((other : ℕ) → other < l.place → slice_index l.numbers l.least ≤ slice_index l.numbers other)
