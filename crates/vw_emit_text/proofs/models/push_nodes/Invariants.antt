-- what is written, and the nodes that are left
use Rattle.std.proofs.Common.{◌≡◌, ◌+◌, ◌-◌, ◌++◌, map}
use Rattle.std.specs.List.{flat_map, range_with_len}
use Rattle.vw_emit_names.specs.Boards.{all_nodes, node_model}
use Rattle.vw_emit_text.specs.Steps.{model_text, planned_by}
use Rattle.vw_emit_text.proofs.models.push_nodes.Given as goal

abbrev pub invariant-loop-node : goal.invariant-loop-node
invariant-loop-node l = l.text.items ++ flat_map model_text (map (node_model (planned_by l.emitter)) (range_with_len l.node (l.emitter.board.now.chips + 1 - l.node))) ≡ l.initial.text.items ++ flat_map model_text (map (node_model (planned_by l.emitter)) (all_nodes (planned_by l.emitter)))
