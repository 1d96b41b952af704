-- the lists so far
use Rattle.vw_board.specs.Steps.Tables.{AreLeastSoFar}
use Rattle.vw_board.proofs.walks.least_links.Given as goal

abbrev pub invariant-loop-to : goal.invariant-loop-to
invariant-loop-to l = AreLeastSoFar l.links l.chips l.to l.lists.items
