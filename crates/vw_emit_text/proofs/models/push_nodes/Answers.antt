use Rattle.std.proofs.Common.{◌<◌, ◌+◌, arith}
use Rattle.vw_emit_names.specs.Boards.{node_model}
use Rattle.vw_emit_text.specs.Steps.{model_text, planned_by}
use Rattle.vw_text.proofs.WrittenPieces.{mapped_more}
use Rattle.vw_emit_text.proofs.models.push_nodes.Goals as goal

pub loop-node-preserved : goal.loop-node-preserved
loop-node-preserved c =
    let planned = planned_by c.args.emitter.now in
    let within : c.loop-node.node < planned.board.chips + 1 = omega (arith, c.loop-node-test.true, c.chips-node-end.ensures) in
    mapped_more model_text (node_model planned) c.loop-node.node (planned.board.chips + 1) c.loop-node.text.items c.push_node.new.text.items _ within c.in_ok-push_node.ensures c.loop-node.invariant
