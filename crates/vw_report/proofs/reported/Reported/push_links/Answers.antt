use Rattle.std.proofs.Common.{◌≡◌, ◌∙◌, List, get_or, ap}
use Rattle.std.proofs.lemmas.List.{get_or_default}
use Rattle.vw_plan.specs.declared.link.Link.{Link}
use Rattle.vw_chain.specs.Timing.{planned_of}
use Rattle.vw_report.specs.Counts.{hops_over}
use Rattle.vw_report.proofs.PartLines.{next_link}
use Rattle.vw_report.proofs.reported.Reported.push_links.Goals as goal

abbrev no_link : Link
no_link = record { from = 0; to = 0; width = 0; delay = 0 }

pub loop-number-preserved : goal.loop-number-preserved
loop-number-preserved c =
    let planned = planned_of c.args.self.now.timed.now in
    let number = c.loop-number.number in
    let listed = c.links-link-items.ensures in
    let within = rw listed at c.loop-number-test.true in
    let its : get_or c.args.hops.now number 0 ≡ hops_over planned number = c.requires.hops number within in
    next_link planned number (get_or c.args.hops.now number 0) (get_or c.links-link-items.result.now number no_link) c.loop-number.text.items c.push_link.new.text.items _ within
    (ap (λ (links : List Link). get_or links number no_link) listed ∙ get_or_default planned.board.links number no_link (get_or c.links-link-items.result.now number no_link) within) its
    c.in_ok-push_link.ensures c.loop-number.invariant
