-- the last so far, or that of the nets that are left
use Rattle.std.proofs.Common.{◌≡◌, drop, map, max, slice_index}
use Rattle.vw_net.specs.Lists.{greatest}
use Rattle.vw_bound.specs.Given.{design_in}
use Rattle.vw_bound.specs.Times.{read_by}
use Rattle.vw_bound.proofs.times.last_read.Given as goal

abbrev pub invariant-loop-net : goal.invariant-loop-net
invariant-loop-net l =
    let read_of = read_by (design_in l.placed) (slice_index l.table) l.node in
    max l.last (greatest (map read_of (drop l.net-index l.nets))) ≡ greatest (map read_of l.nets)
