use Rattle.std.proofs.Common.{◌≡◌, ◌<◌, ◌≤◌, slice_get, Option, Some, ap, sym, subst, ◌∙◌, ⊎_elim, arith}
use Rattle.std.specs.Prelude.{unwrap_or}
use Rattle.std.proofs.lemmas.Bool.{cases_lt}
use Rattle.std.proofs.lemmas.Option.{slice_get-get_or, slice_get_within}
use Rattle.vw_crew.specs.Groups.{SeenGroup}
use Rattle.vw_crew.proofs.groups.are_done.Goals as goal

pub returns-then-not-is_done-clause-rest : goal.returns-then-not-is_done-clause-rest
returns-then-not-is_done-clause-rest g c =
    let there : slice_get c.args.groups.now c.loop-group.group-index ≡ Some c.group-item.result = slice_get-get_or c.args.groups.now c.loop-group.group-index c.group-item.result c.loop-group-test.true ∙ ap Some (sym c.group-item.is) in
    let one = c.if-not-is_done.ensures.rest in
    (c.loop-group.group-index, (c.group-item.result, (one.0, (one.1.0, (there, one.1.1)))))

pub loop-group-preserved : goal.loop-group-preserved
loop-group-preserved g c = λ number place group node is there below.
    let if_before = λ (sooner : number < c.loop-group.group-index). c.loop-group.invariant number place group node is there sooner in
    let if_last = λ (past : c.loop-group.group-index ≤ number).
    let same : number ≡ c.loop-group.group-index = omega (arith, past, below) in
    let here : slice_get c.args.groups.now c.loop-group.group-index ≡ Some c.group-item.result = slice_get-get_or c.args.groups.now c.loop-group.group-index c.group-item.result c.loop-group-test.true ∙ ap Some (sym c.group-item.is) in
    let its : group ≡ c.group-item.result = ap (λ (found : Option SeenGroup). unwrap_or found group) (sym is ∙ ap (slice_get c.args.groups.now) same ∙ here) in
    c.if-not-is_done.ensures.done place node (subst (λ (one : SeenGroup). slice_get one.nodes place ≡ Some node) its there) in
    ⊎_elim if_before if_last (cases_lt number c.loop-group.group-index)

pub returns-clause-done : goal.returns-clause-done
returns-clause-done g c = λ number place group node is there. c.loop-group.invariant number place group node is there (omega (arith, slice_get_within c.args.groups.now number group is, c.loop-group-test.false))
