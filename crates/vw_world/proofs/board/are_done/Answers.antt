use Rattle.std.proofs.Common.{◌≡◌, ◌<◌, ◌≤◌, slice_get, get_or, Some, ap, sym, ◌∙◌, ⊎_elim, arith}
use Rattle.std.proofs.lemmas.Bool.{cases_lt}
use Rattle.std.proofs.lemmas.Option.{get_or_from_slice_get, slice_get-get_or, slice_get_within}
use Rattle.vw_node.specs.declared.node.Node.{Node}
use Rattle.vw_world.proofs.board.are_done.Goals as goal

pub returns-then-node-clocks-clause-rest : goal.returns-then-node-clocks-clause-rest
returns-then-node-clocks-clause-rest c =
    let there : slice_get c.args.nodes.now c.loop-node.node-index ≡ Some c.node-item.result =
    slice_get-get_or c.args.nodes.now c.loop-node.node-index c.node-item.result c.loop-node-test.true ∙ ap Some (sym c.node-item.is) in
    (c.loop-node.node-index, (c.node-item.result, (there, c.if-node-clocks.true)))

pub loop-node-preserved : goal.loop-node-preserved
loop-node-preserved c = λ node there is below.
    let if_before = λ (sooner : node < c.loop-node.node-index). c.loop-node.invariant node there is sooner in
    let if_last = λ (last : c.loop-node.node-index ≤ node).
    let same : node ≡ c.loop-node.node-index = omega (arith, last, below) in
    let one : there ≡ get_or c.args.nodes.now node there = sym (get_or_from_slice_get c.args.nodes.now node there there is) in
    let here : slice_get c.args.nodes.now node ≡ Some c.node-item.result =
    ap (slice_get c.args.nodes.now) same
    ∙ slice_get-get_or c.args.nodes.now c.loop-node.node-index c.node-item.result c.loop-node-test.true
    ∙ ap Some (sym c.node-item.is) in
    let its : there ≡ c.node-item.result = one ∙ get_or_from_slice_get c.args.nodes.now node c.node-item.result there here in
    ap (λ (any : Node). any.clock) its ∙ c.if-node-clocks.false in
    ⊎_elim if_before if_last (cases_lt node c.loop-node.node-index)

pub returns-clause-done : goal.returns-clause-done
returns-clause-done c = λ node there is.
    c.loop-node.invariant node there is (omega (arith, slice_get_within c.args.nodes.now node there is, c.loop-node-test.false))
