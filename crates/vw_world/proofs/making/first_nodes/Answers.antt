use Rattle.std.proofs.Common.{◌≡◌, ℕ, eqb, length, ap, sym, ◌∙◌, Some, None, if◌then◌else◌, List}
use Rattle.std.proofs.lemmas.List.{length-map}
use Rattle.vw_node.specs.Fits.{IsShare, state_of}
use Rattle.vw_node.specs.States.{NodeState, start_state}
use Rattle.vw_node.proofs.Values.{length-tabulate}
use Rattle.vw_world.proofs.FirstBoards.{node_more}
use Rattle.vw_world.proofs.making.first_nodes.Goals as goal

pub loop-node-preserved : goal.loop-node-preserved
loop-node-preserved c =
    let job = c.args.job.now in
    let long : length c.loop-node.nodes.items ≡ c.loop-node.node =
    sym (length-map c.loop-node.nodes.items state_of)
    ∙ ap (λ (states : List NodeState). length states) c.loop-node.invariant.states
    ∙ length-tabulate (start_state job) c.loop-node.node in
    let its : IsShare job c.share.result = record {
      first = c.share.ensures.first;
      clocks = c.share.ensures.clocks;
      checked = c.share.ensures.checked;
      start = c.share.ensures.start;
      rows = c.share.ensures.rows ∙ ap (λ (node : ℕ). if eqb node 0 then Some job.rows else None) (sym c.share.ensures.node);
    } in
    let more = node_more job c.loop-node.node c.loop-node.nodes.items c.push.new.self.items c.in_ok-make.field-0 c.share.result in
    more c.loop-node.invariant long c.in_ok-push.ensures.items c.share.ensures.node its c.in_ok-make.ensures
