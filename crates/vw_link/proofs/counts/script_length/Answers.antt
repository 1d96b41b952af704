use Rattle.std.proofs.Common.{ap, ◌∙◌}
use Rattle.vw_plan.specs.declared.board.Board.{Board}
use Rattle.vw_plan.specs.declared.checked.Checked.{Checked}
use Rattle.vw_plan.specs.declared.plan.Plan.{Plan}
use Rattle.vw_link.proofs.ScriptLengths.{counted}
use Rattle.vw_link.proofs.counts.script_length.Goals as goal

pub returns : goal.returns
returns c =
    let links = c.links.ensures ∙ ap (λ (board : Board). board.links) (c.board.ensures ∙ ap (λ (checked : Checked). checked.board) c.checked.ensures) in
    let wires = c.wires.ensures ∙ ap (λ (plan : Plan). plan.wires) (c.plan.ensures ∙ ap (λ (checked : Checked). checked.plan) c.checked-2.ensures) in
    counted c.args.job.now c.args.link c.links.result.now c.wires.result.now _ c.hops_over.result c.share-clocks.result.clocks links wires c.requires c.hops_over.ensures.count c.share-clocks.ensures.clocks
