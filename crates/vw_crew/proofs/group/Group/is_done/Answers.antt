use Rattle.std.proofs.Common.{◌≡◌, ◌<◌, ◌≤◌, List, slice_get, Option, Some, ap, sym, ◌∙◌, ⊎_elim, arith}
use Rattle.std.specs.Prelude.{unwrap_or}
use Rattle.std.proofs.lemmas.Bool.{cases_lt}
use Rattle.std.proofs.lemmas.Option.{slice_get-get_or, slice_get_within}
use Rattle.vw_node.specs.declared.node.Node.{Node}
use Rattle.vw_crew.specs.Groups.{SeenGroup}
use Rattle.vw_crew.proofs.group.Group.is_done.Goals as goal

pub loop-node-preserved : goal.loop-node-preserved
loop-node-preserved g c = λ place node is below.
    let nodes = c.deref-node-items.result.now in
    let if_before = λ (sooner : place < c.loop-node.node-index). c.loop-node.invariant place node is sooner in
    let if_last = λ (past : c.loop-node.node-index ≤ place).
    let same : place ≡ c.loop-node.node-index = omega (arith, past, below) in
    let here : slice_get nodes c.loop-node.node-index ≡ Some c.node-item.result = slice_get-get_or nodes c.loop-node.node-index c.node-item.result c.loop-node-test.true ∙ ap Some (sym c.node-item.is) in
    let its : node ≡ c.node-item.result = ap (λ (found : Option Node). unwrap_or found node) (sym is ∙ ap (slice_get nodes) same ∙ here) in
    ap (λ (any : Node). any.clock) its ∙ c.if-node-clocks.false in
    ⊎_elim if_before if_last (cases_lt place c.loop-node.node-index)

pub returns-then-node-clocks-clause-rest : goal.returns-then-node-clocks-clause-rest
returns-then-node-clocks-clause-rest g c =
    let nodes = c.deref-node-items.result.now in
    let here : slice_get nodes c.loop-node.node-index ≡ Some c.node-item.result = slice_get-get_or nodes c.loop-node.node-index c.node-item.result c.loop-node-test.true ∙ ap Some (sym c.node-item.is) in
    let there : slice_get c.args.self.now.nodes c.loop-node.node-index ≡ Some c.node-item.result = sym (ap (λ (list : List Node). slice_get list c.loop-node.node-index) c.deref-node-items.ensures.value ∙ ap (λ (group : SeenGroup). slice_get group.nodes c.loop-node.node-index) c.self.view_is) ∙ here in
    (c.loop-node.node-index, (c.node-item.result, (there, c.if-node-clocks.true)))

pub returns-clause-done : goal.returns-clause-done
returns-clause-done g c = λ place node is.
    let there : slice_get c.deref-node-items.result.now place ≡ Some node = ap (λ (list : List Node). slice_get list place) c.deref-node-items.ensures.value ∙ ap (λ (group : SeenGroup). slice_get group.nodes place) c.self.view_is ∙ is in
    c.loop-node.invariant place node there (omega (arith, slice_get_within c.deref-node-items.result.now place node there, c.loop-node-test.false))
