-- what is written, and the hops that are left
use Rattle.std.proofs.Common.{◌≡◌, ◌++◌, drop}
use Rattle.vw_text.specs.Physical.{lines_text}
use Rattle.vw_chain.specs.Timing.{planned_of}
use Rattle.vw_report.specs.Report.{hop_lines}
use Rattle.vw_report.proofs.reported.Reported.push_hops.Given as goal

abbrev pub invariant-loop-hop : goal.invariant-loop-hop
invariant-loop-hop l =
    let planned = planned_of l.self.timed.now in
    l.text.items ++ lines_text (hop_lines planned l.name l.ready (drop l.hop-index l.hops)) ≡ l.fn.text.items ++ lines_text (hop_lines planned l.name l.fn.ready l.hops)
