-- which nodes have walks of so many links, and what was noted of walks of fewer
use Rattle.std.proofs.Common.{◌+◌}
use Rattle.vw_board.specs.Steps.Tables.{HaveWalks, HaveLeast}
use Rattle.vw_board.proofs.walks.least_links_to.Given as goal

abbrev pub invariant-loop-links_so_far : goal.invariant-loop-links_so_far
invariant-loop-links_so_far l = HaveWalks l.links (l.chips + 1) l.links_so_far l.to l.nodes.items × HaveLeast l.links (l.chips + 1) l.links_so_far l.to l.least.items
