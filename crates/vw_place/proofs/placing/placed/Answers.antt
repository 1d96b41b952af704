use Rattle.std.proofs.Common.{◌≡◌, ◌+◌, ℕ, List, ap, map, sym, subst, ◌∙◌}
use Rattle.std.proofs.lemmas.Result.{IfOk-weaker}
use Rattle.vw_plan.specs.declared.board.Board.{Board}
use Rattle.vw_plan.specs.Good.{NoExchangeHelps, NoMoveHelps}
use Rattle.vw_plan.proofs.ChipNumbers.{low_chips}
use Rattle.vw_place.specs.Steps.NodeLists.{IsNodeList, NumberedBoard, renumbered_node}
use Rattle.vw_place.specs.Steps.Traffic.{travel_by}
use Rattle.vw_place.specs.Steps.Tries.{NoneIsUseful}
use Rattle.vw_place.proofs.Renumbered.{moves_moved}
use Rattle.vw_place.proofs.Travels.{none_helps}
use Rattle.vw_place.proofs.placing.placed.Goals as goal

pub returns-clause-exchanges : goal.returns-clause-exchanges
returns-clause-exchanges c =
    let flat = c.args.placement.now.ordered.now.flat in
    let board = c.args.placement.now.board.now in
    let chip_of = c.args.placement.now.chip_of.now in
    let at = c.run.new.self.nodes.numbers in
    let same : c.of-exchange.result.nodes.board ≡ board = ap (λ (nodes : NumberedBoard). nodes.board) c.of-exchange.ensures.nodes ∙ c.in_ok-nodes.ensures in
    let nodes = subst (λ (own : Board). IsNodeList own at) (c.run.ensures.board ∙ same) c.renumbered.ensures.nodes in
    let none = subst (λ (own : Board). NoneIsUseful (travel_by c.of-exchange.result.table.now own) (own.chips + 1) at) same c.run.ensures.none in
    let none_by_table = subst (λ (table : List ℕ). NoneIsUseful (travel_by table board) (board.chips + 1) at) c.of-exchange.ensures.table none in
    let helps = none_helps flat board chip_of (low_chips board chip_of c.args.placement.now.chips) c.in_ok-table.table c.in_ok-table.ensures at nodes none_by_table in
    IfOk-weaker c.renumbered.result (λ new. new ≡ map (renumbered_node at) chip_of) (NoExchangeHelps flat board) (λ new is. subst (λ (list : List ℕ). NoExchangeHelps flat board list) (sym is) helps) c.renumbered.ensures.moved

pub returns-clause-moves : goal.returns-clause-moves
returns-clause-moves c moves =
    let flat = c.args.placement.now.ordered.now.flat in
    let board = c.args.placement.now.board.now in
    let chip_of = c.args.placement.now.chip_of.now in
    let at = c.run.new.self.nodes.numbers in
    let same : c.run.new.self.nodes.board ≡ board = c.run.ensures.board ∙ ap (λ (nodes : NumberedBoard). nodes.board) c.of-exchange.ensures.nodes ∙ c.in_ok-nodes.ensures in
    let nodes = subst (λ (own : Board). IsNodeList own at) same c.renumbered.ensures.nodes in
    let kept = moves_moved flat board at nodes chip_of (low_chips board chip_of c.args.placement.now.chips) moves in
    IfOk-weaker c.renumbered.result (λ new. new ≡ map (renumbered_node at) chip_of) (NoMoveHelps flat board) (λ new is. subst (λ (list : List ℕ). NoMoveHelps flat board list) (sym is) kept) c.renumbered.ensures.moved
