-- the times so far, and those of the nets that are left
use Rattle.std.proofs.Common.{◌≡◌, ◌<◌, ◌^◌, ◌++◌, ℕ, drop, map, slice_index}
use Rattle.std.specs.List.{All}
use Rattle.vw_bound.specs.Given.{design_in}
use Rattle.vw_bound.specs.Times.{there_by}
use Rattle.vw_short_bound.proofs.pressing.arrivals.Given as goal

abbrev pub invariant-loop-net : goal.invariant-loop-net
invariant-loop-net l =
    let time_of = λ (net : ℕ). there_by (design_in l.placed) (slice_index l.soon) net l.node in
    record {
      are : l.times.items ++ map time_of (drop l.net-index l.nets) ≡ map time_of l.nets;
      low : All (λ time. time < 2 ^ 63) l.times.items;
    }
