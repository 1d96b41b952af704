-- the last so far, or that of the pairs that are left
use Rattle.std.proofs.Common.{◌≡◌, ◌<◌, ◌^◌, drop, map, max, slice_index}
use Rattle.vw_net.specs.Lists.{greatest}
use Rattle.vw_plan.specs.declared.need.Need.{Need}
use Rattle.vw_bound.specs.Given.{design_in}
use Rattle.vw_bound.specs.Times.{there_by}
use Rattle.vw_bound.proofs.depth.pairs_due.Given as goal

abbrev pub invariant-loop-need : goal.invariant-loop-need
invariant-loop-need l =
    let time_of = λ (need : Need). there_by (design_in l.placed) (slice_index l.table) need.net need.to in
    record {
      rest : max l.last (greatest (map time_of (drop l.need-index l.needs))) ≡ greatest (map time_of l.needs);
      low : l.last < 2 ^ 63;
    }
