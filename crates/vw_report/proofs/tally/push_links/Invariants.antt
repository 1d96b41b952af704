-- what is appended, and the hops that are left
use Rattle.std.proofs.Common.{◌≡◌, ◌++◌, map, drop}
use Rattle.vw_report.specs.Counts.{link_of}
use Rattle.vw_report.proofs.tally.push_links.Given as goal

abbrev pub invariant-loop-hop : goal.invariant-loop-hop
invariant-loop-hop l = l.numbers.items ++ map (link_of l.links) (drop l.hop-index l.hops) ≡ l.fn.numbers.items ++ map (link_of l.links) l.hops
