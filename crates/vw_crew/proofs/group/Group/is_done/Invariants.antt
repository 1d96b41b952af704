use Rattle.std.proofs.Common.{◌≡◌, ◌<◌, ℕ, slice_get, Some}
use Rattle.vw_node.specs.declared.node.Node.{Node}
use Rattle.vw_crew.proofs.group.Group.is_done.Given as goal

abbrev pub invariant-loop-node : goal.invariant-loop-node
invariant-loop-node g l = (place : ℕ) (node : Node) → slice_get l.node-items place ≡ Some node → place < l.node-index → node.clock ≡ l.clocks
