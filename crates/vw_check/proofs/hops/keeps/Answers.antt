use Rattle.std.proofs.Common.{◌∙◌, List, ap, ap₂, sym, nat_lt}
use Rattle.vw_plan.specs.declared.link.Link.{Link}
use Rattle.vw_check.specs.declared.hops.Rule.{Rule}
use Rattle.vw_check.specs.Steps.Rules.{keeps, width_between}
use Rattle.vw_check.proofs.LinkWidths.{has_pin-width}
use Rattle.vw_check.proofs.hops.keeps.Goals as goal

-- the pin is one of the link's
pub returns-in-Pin : goal.returns-in-Pin
returns-in-Pin c =
    let board = c.args.wired.now.board.now in
    let hop = c.args.hop.now in
    ap₂ nat_lt c.pin.ensures (c.width_between.ensures ∙ ap (λ (links : List Link). width_between links c.from.result c.to.result) c.args.wired.now.has_links ∙ ap₂ (width_between board.links) c.from.ensures c.to.ensures)
    ∙ sym (has_pin-width board.links board.linked.separate.once hop)
    ∙ ap (λ (rule : Rule). keeps rule board c.args.wired.now.plan.now.period c.args.from c.args.wire.now c.args.number hop) (sym c.in-Pin.is)
