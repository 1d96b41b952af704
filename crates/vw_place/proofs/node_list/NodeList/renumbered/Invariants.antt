-- the numbers so far, and those of the chips that are left
use Rattle.std.proofs.Common.{◌≡◌, ◌++◌, drop, map}
use Rattle.vw_place.specs.Steps.NodeLists.{renumbered_node}
use Rattle.vw_place.proofs.node_list.NodeList.renumbered.Given as goal

abbrev pub invariant-loop-chip : goal.invariant-loop-chip
invariant-loop-chip l = l.new.items ++ map (renumbered_node l.numbers) (drop l.chip-index l.chip_of) ≡ map (renumbered_node l.numbers) l.chip_of
