use Rattle.std.proofs.Common.{◌≡◌, ◌+◌, ◌++◌, ℕ, List, [], ◌∷◌, ap, sym, subst, ◌∙◌, arith}
use Rattle.std.specs.List.{range_with_len}
use Rattle.vw_plan.specs.declared.board.Board.{Board}
use Rattle.vw_place.specs.Steps.NodeLists.{IsNodeList}
use Rattle.vw_place.proofs.Exchanges.{own_nodes}
use Rattle.vw_net.proofs.SumsOverLists.{range_end}
use Rattle.vw_place.proofs.node_list.NodeList.of.Goals as goal

pub loop-node-preserved : goal.loop-node-preserved
loop-node-preserved c =
    let node = c.loop-node.node in
    let next : node ≡ 0 + node = omega arith in
    c.in_ok-push.ensures.items ∙ ap (λ (list : List ℕ). list ++ node ∷ []) c.loop-node.invariant ∙ ap (λ (number : ℕ). range_with_len 0 node ++ number ∷ []) next ∙ sym (range_end 0 node)

pub invariant_of-result : goal.invariant_of-result
invariant_of-result c =
    let board = c.args.placement.now.distances.now in
    let whole : c.loop-node.node ≡ board.chips + 1 = omega (arith, c.chips-node-end.ensures, ap (λ (one : Board). one.chips) c.args.placement.now.same_board) in
    subst (λ (list : List ℕ). IsNodeList board list) (sym (c.loop-node.invariant ∙ ap (λ (many : ℕ). range_with_len 0 many) whole)) (own_nodes board)
