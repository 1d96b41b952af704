use Rattle.std.proofs.Common.{ℕ, List, ap, sym, subst, arith}
use Rattle.vw_place.specs.Steps.NodeLists.{IsNodeList, NumberedBoard}
use Rattle.vw_place.proofs.Exchanges.{nodes_exchanged}
use Rattle.vw_place.proofs.node_list.NodeList.swap.Goals as goal

-- the list with the two exchanged
pub invariant_of-self : goal.invariant_of-self
invariant_of-self c =
    let board = c.self.inside.distances.now in
    let chips = ap (λ (nodes : NumberedBoard). nodes.board.chips) c.self.view_is in
    subst (λ (list : List ℕ). IsNodeList board list) (sym c.swap.ensures.items) (nodes_exchanged board c.self.inside.numbers.items c.self.invariant c.args.one c.args.other (c.requires.one.0, omega (arith, c.requires.one, chips)) (c.requires.other.0, omega (arith, c.requires.other, chips)))
