use Rattle.std.proofs.Common.{◌≡◌, ◌∙◌, ap, sym, subst}
use Rattle.vw_plan.specs.declared.board.Board.{Board}
use Rattle.vw_plan.specs.declared.plan.Plan.{Plan}
use Rattle.vw_plan.specs.Sound.{IsSound}
use Rattle.vw_ready.specs.Pairs.{HasPairs}
use Rattle.vw_ready.specs.Wires.{wire_pairs}
use Rattle.vw_report.proofs.Wirings.{each_cell, its_nets, same_board}
use Rattle.vw_report.proofs.report.report_text.Goals as goal

pub invariant_of-wired : goal.invariant_of-wired
invariant_of-wired c =
    let checked = c.args.checked.now in
    let plans : c.plan.result.now ≡ c.plan-2.result.now = c.plan.ensures ∙ sym c.plan-2.ensures in
    let boards : c.board.result.now ≡ c.board-2.result.now = c.board.ensures ∙ sym c.board-2.ensures in
    record {
      each = each_cell checked c.ordered.result.now c.board-2.result.now c.plan-2.result.now c.ordered.ensures c.board-2.ensures c.plan-2.ensures;
      nets = its_nets checked c.ordered.result.now c.board-2.result.now c.plan-2.result.now c.ordered.ensures c.board-2.ensures c.plan-2.ensures;
      has_wires = subst (λ (plan : Plan). HasPairs (wire_pairs plan.wires) c.in_ok-wires.wires.places) plans c.in_ok-wires.ensures;
      has_links = c.in_ok-links.ensures ∙ ap (λ (board : Board). board.links) boards;
    }

pub report_wired-requires : goal.report_wired-requires
report_wired-requires c = subst IsSound (sym (same_board c.args.checked.now c.ordered.result.now c.board-2.result.now c.plan-2.result.now c.ordered.ensures c.board-2.ensures c.plan-2.ensures)) c.args.checked.now.sound
