use Rattle.std.proofs.Common.{◌≡◌, ◌≢◌, true, false, Some, sym, ◌∙◌, rules, arith}
use Rattle.std.specs.Prelude.{codes}
use Rattle.vw_plan.specs.declared.link.Link.{Link}
use Rattle.vw_plan.specs.Walks.{has_link}
use Rattle.vw_board.specs.LinkLines.{delay_in, link_words}
use Rattle.vw_board.specs.Words.{is_line_of, number_within}
use Rattle.vw_board.proofs.LinkReads.{link_fine, repeated_ends}
use Rattle.vw_board.proofs.link_lines.read_link.Goals as goal

pub returns-clause-fine : goal.returns-clause-fine
returns-clause-fine c =
    let line = c.args.line.now in
    let link = c.make.result in
    let form : is_line_of (codes "link") (link_words c.args.version) line ≡ true = search rules in
    let from : number_within 0 c.args.chips 1 line ≡ Some link.from = search rules in
    let to : number_within 0 c.args.chips 2 line ≡ Some link.to = search rules in
    let width : number_within 1 64 3 line ≡ Some link.width = search rules in
    let delay : delay_in c.args.version line ≡ Some link.delay = search rules in
    let apart : link.from ≢ link.to = λ same. c.if-from-to.false (omega arith) in
    let new : has_link c.args.links.now link.from link.to ≡ false = search rules in
    link_fine c.args.version c.args.chips c.args.links.now line link form from to width delay apart new

pub returns-then-has_link-clause-fault : goal.returns-then-has_link-clause-fault
returns-then-has_link-clause-fault c =
    let line = c.args.line.now in
    let link : Link = record { from = c.in-Some.from; to = c.in-Some-number_within.to; width = c.in-Some-number_within-2.width; delay = c.in-Some-delay_in.delay } in
    let form : is_line_of (codes "link") (link_words c.args.version) line ≡ true = search rules in
    let from : number_within 0 c.args.chips 1 line ≡ Some link.from = search rules in
    let to : number_within 0 c.args.chips 2 line ≡ Some link.to = search rules in
    let width : number_within 1 64 3 line ≡ Some link.width = search rules in
    let delay : delay_in c.args.version line ≡ Some link.delay = search rules in
    let repeated : has_link c.args.links.now link.from link.to ≡ true = sym c.has_link.ensures ∙ c.if-has_link.true in
    repeated_ends c.args.version c.args.chips c.args.links.now line link form from to width delay c.if-from-to.false repeated
