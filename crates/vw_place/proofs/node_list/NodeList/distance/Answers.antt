use Rattle.std.proofs.Common.{ap, arith}
use Rattle.vw_place.specs.Steps.NodeLists.{NumberedBoard}
use Rattle.vw_place.proofs.Renumbered.{stands_low}
use Rattle.vw_place.proofs.node_list.NodeList.distance.Goals as goal

-- nodes by their new numbers are nodes
pub distance-requires-clause-from : goal.distance-requires-clause-from
distance-requires-clause-from c = stands_low _ _ c.self.invariant c.args.from _ (omega (arith, c.requires.from, ap (λ (nodes : NumberedBoard). nodes.board.chips) c.self.view_is)) c.index.ensures

pub distance-requires-clause-to : goal.distance-requires-clause-to
distance-requires-clause-to c = stands_low _ _ c.self.invariant c.args.to _ (omega (arith, c.requires.to, ap (λ (nodes : NumberedBoard). nodes.board.chips) c.self.view_is)) c.index-2.ensures
