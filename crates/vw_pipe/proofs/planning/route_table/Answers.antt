use Rattle.std.proofs.Common.{◌∙◌, ℕ, List, subst, IfOk, arith}
use Rattle.vw_plan.specs.declared.need.Route.{Route}
use Rattle.vw_ready.specs.Pairs.{HasPairs}
use Rattle.vw_ready.proofs.PushedElements.{all_pushed}
use Rattle.vw_pipe.proofs.planning.route_table.Goals as goal

-- the pairs are those of all of them
pub returns : goal.returns
returns c =
    let pair_of : Route → ℕ × ℕ = λ route. (route.net, route.to) in
    let all = all_pushed pair_of c.args.routes.now c.loop-route.route-index c.loop-route.pairs.items (omega arith) c.loop-route.invariant in
    subst (λ (pairs : List (ℕ × ℕ)). IfOk c.of.result (λ table. HasPairs pairs table.places)) (c.deref.ensures.value ∙ all) c.of.ensures
