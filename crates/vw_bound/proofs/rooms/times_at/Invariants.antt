-- the times so far, and those of the pairs that are left
use Rattle.std.proofs.Common.{◌≡◌, ◌<◌, ◌^◌, ◌++◌, drop, slice_index}
use Rattle.std.specs.List.{All}
use Rattle.vw_bound.specs.Given.{design_in}
use Rattle.vw_bound.specs.Steps.Rooms.{times_at}
use Rattle.vw_bound.proofs.rooms.times_at.Given as goal

abbrev pub invariant-loop-need : goal.invariant-loop-need
invariant-loop-need l = record {
  are : l.times.items ++ times_at (design_in l.placed) (slice_index l.table) l.node (drop l.need-index l.needs) ≡ times_at (design_in l.placed) (slice_index l.table) l.node l.needs;
  low : All (λ time. time < 2 ^ 63) l.times.items;
}
