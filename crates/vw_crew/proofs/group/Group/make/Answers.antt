use Rattle.std.proofs.Common.{◌≡◌, ℕ, eqb, ap, sym, ◌∙◌, Some, None, if◌then◌else◌, arith}
use Rattle.vw_plan.specs.declared.board.Board.{Board}
use Rattle.vw_plan.specs.declared.checked.Checked.{Checked}
use Rattle.vw_node.specs.Fits.{IsShare}
use Rattle.vw_crew.proofs.Filling.{one_filled}
use Rattle.vw_crew.proofs.group.Group.make.Goals as goal

pub loop-node-preserved : goal.loop-node-preserved
loop-node-preserved g c =
    let job = c.args.job.now in
    let chips : c.chips-all.result ≡ job.checked.board.chips = c.chips-all.ensures ∙ ap (λ (board : Board). board.chips) (c.board.ensures ∙ ap (λ (checked : Checked). checked.board) c.checked.ensures) in
    let its : IsShare job c.share.result = record {
      first = c.share.ensures.first;
      clocks = c.share.ensures.clocks;
      checked = c.share.ensures.checked;
      start = c.share.ensures.start;
      rows = c.share.ensures.rows ∙ ap (λ (node : ℕ). if eqb node 0 then Some job.rows else None) (sym c.share.ensures.node);
    } in
    one_filled job c.args.groups c.args.number c.loop-node.node c.loop-node.nodes.items c.push.new.self.items c.loop-node.ends.items c.push-in-loop-node.new.self.items c.in_ok-make.field-0 c.in_ok-make-2.field-0 c.share.result
    c.loop-node.invariant (omega (arith, c.loop-node-test.true, chips)) c.in_ok-push.ensures.items c.in_ok-push-2.ensures.items c.share.ensures.node its c.in_ok-make.ensures c.in_ok-make-2.ensures
