-- the least so far, or that of the links that are left
use Rattle.std.proofs.Common.{◌≡◌, ◌≤◌, drop, min, slice_index}
use Rattle.vw_delays.specs.Delays.{nearest}
use Rattle.vw_delays.proofs.rows.nearest.Given as goal

abbrev pub invariant-loop-link : goal.invariant-loop-link
invariant-loop-link l = record {
  low : l.least ≤ l.limit;
  whole : min l.least (nearest l.limit (drop l.link-index l.links) (slice_index l.row) l.from) ≡ nearest l.limit l.links (slice_index l.row) l.from;
}
