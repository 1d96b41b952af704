use Rattle.std.proofs.Common.{◌≡◌, ◌<◌, ◌+◌, ◌∙◌, ℕ, List, length, get_or, sym, ap, refl, arith, Some, subst}
use Rattle.std.specs.Prelude.{slice_get}
use Rattle.std.proofs.lemmas.Option.{slice_get_read}
use Rattle.vw_net.specs.declared.flat.Flat.{Flat}
use Rattle.vw_plan.specs.declared.need.Route.{Route}
use Rattle.vw_plan.specs.Nets.{node_of}
use Rattle.std.proofs.lemmas.Option.{same_Some}
use Rattle.vw_pipe.proofs.TaskWords.{on_ok, same_sent, same_usable}
use Rattle.vw_pipe.proofs.drafting.send_route.Goals as goal

-- the route at a number
module _ (routes : List Route) (number : ℕ) (route : Route) (within : number < length routes) (is : route ≡ get_or routes number route) where
  there : slice_get routes number ≡ Some (get_or routes number route)
  there = slice_get_read routes (length routes) number route refl within is ∙ ap Some is

pub node_of-node-requires-clause-net : goal.node_of-node-requires-clause-net
node_of-node-requires-clause-net c =
    let route = there c.args.given.now.routes.now c.args.number c.index-given-number.result c.requires.its.0 c.index-given-number.is in
    let its = c.requires.its.2 _ route in
    subst (λ (flat : Flat). c.net.result < flat.inputs + length flat.cells) (sym c.flat.ensures) (omega (arith, c.net.ensures, its.0))

pub usable_at-usable-requires-clause-net : goal.usable_at-usable-requires-clause-net
usable_at-usable-requires-clause-net c =
    let route = there c.args.given.now.routes.now c.args.number c.index-given-number.result c.requires.its.0 c.index-given-number.is in
    let its = c.requires.its.2 _ route in
    omega (arith, c.net-2.ensures, its.0)

pub send-requires-clause-first : goal.send-requires-clause-first
send-requires-clause-first c =
    let route = there c.args.given.now.routes.now c.args.number c.index-given-number.result c.requires.its.0 c.index-given-number.is in
    (c.requires.its.2 _ route).2

pub send-requires-clause-few : goal.send-requires-clause-few
send-requires-clause-few c =
    let route = there c.args.given.now.routes.now c.args.number c.index-given-number.result c.requires.its.0 c.index-given-number.is in
    (c.requires.its.2 _ route).1

pub returns : goal.returns
returns c = on_ok c.send.result (λ sent route at.
    let given = c.args.given.now in
    let draft = c.args.draft.now in
    let here = get_or given.routes.now c.args.number c.index-given-number.result in
    let found = there given.routes.now c.args.number c.index-given-number.result c.requires.its.0 c.index-given-number.is in
    let same : here ≡ route = same_Some here route (sym found ∙ at) in
    let node = c.node_of-node.ensures ∙ ap (λ (flat : Flat). node_of flat given.chip_of.now c.net.result) c.flat.ensures in
    let its_net = c.net.ensures ∙ ap (λ (one : Route). one.net) same in
    let its_net_again = c.net-2.ensures ∙ ap (λ (one : Route). one.net) same in
    let usable = c.usable_at-usable.ensures
    ∙ same_usable given.ordered.now.flat given.board.now given.chip_of.now given.routes.now draft.hops.items draft.leads.items
    c.node_of-node.result c.net.result c.net-2.result route.net node its_net its_net_again in
    same_sent given.board.now here route c.args.number c.usable_at-usable.result _ draft c.send.new.draft same usable sent) c.send.ensures
