-- the entries of the hops so far, and those of the rest
use Rattle.std.proofs.Common.{◌≡◌, ◌++◌, drop}
use Rattle.vw_prog.specs.Timetable.{hop_entries}
use Rattle.vw_prog.proofs.build.list_hops.Given as goal

abbrev pub invariant-loop-hop : goal.invariant-loop-hop
invariant-loop-hop l = l.entries.items ++ hop_entries l.links l.net (drop l.hop-index l.hops) ≡ l.fn.entries.items ++ hop_entries l.links l.net l.hops
