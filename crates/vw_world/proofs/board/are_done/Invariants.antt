use Rattle.std.proofs.Common.{◌≡◌, ◌<◌, ℕ, slice_get, Some}
use Rattle.vw_node.specs.declared.node.Node.{Node}
use Rattle.vw_world.proofs.board.are_done.Given as goal

abbrev pub invariant-loop-node : goal.invariant-loop-node
invariant-loop-node l = (node : ℕ) (there : Node) → slice_get l.nodes node ≡ Some there → node < l.node-index → there.clock ≡ l.clocks
