-- what is written, and the links that are left
use Rattle.std.proofs.Common.{◌≡◌, ◌++◌, [], ◌∷◌, drop}
use Rattle.vw_net.specs.Gathered.{listed}
use Rattle.vw_text.specs.Physical.{lines_text}
use Rattle.vw_chain.specs.Timing.{planned_of}
use Rattle.vw_report.specs.Report.{link_line, link_lines}
use Rattle.vw_report.proofs.reported.Reported.push_links.Given as goal

abbrev pub invariant-loop-number : goal.invariant-loop-number
invariant-loop-number l =
    let planned = planned_of l.self.timed.now in
    l.text.items ++ lines_text (listed (λ number link. link_line planned number link ∷ []) l.number (drop l.number planned.board.links)) ≡ l.fn.text.items ++ lines_text (link_lines planned)
