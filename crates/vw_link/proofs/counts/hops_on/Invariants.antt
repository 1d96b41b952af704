use Rattle.std.proofs.Common.{◌≡◌, ◌≤◌, ◌+◌, drop, length}
use Rattle.std.specs.List.{filter}
use Rattle.vw_link.specs.Counts.{over}
use Rattle.vw_link.proofs.counts.hops_on.Given as goal

abbrev pub invariant-loop-hop : goal.invariant-loop-hop
invariant-loop-hop l = (l.count + length (filter (over l.link) (drop l.hop-index l.hops)) ≡ length (filter (over l.link) l.hops)) × (l.count ≤ l.hop-index)
