use Rattle.std.proofs.Common.{◌≡◌, ◌<◌, ℕ, slice_get, Some}
use Rattle.vw_node.specs.declared.node.Node.{Node}
use Rattle.vw_crew.specs.Groups.{SeenGroup}
use Rattle.vw_crew.proofs.groups.are_done.Given as goal

abbrev pub invariant-loop-group : goal.invariant-loop-group
invariant-loop-group g l = (number place : ℕ) (group : SeenGroup) (node : Node) → slice_get l.groups number ≡ Some group → slice_get group.nodes place ≡ Some node → number < l.group-index → node.clock ≡ l.clocks
