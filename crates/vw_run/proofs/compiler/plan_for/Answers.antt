use Rattle.std.proofs.Common.{List, ℕ, subst}
use Rattle.std.specs.List.{All}
use Rattle.vw_plan.specs.declared.need.Route.{Route}
use Rattle.vw_plan.specs.Routes.{AreRoutes}
use Rattle.vw_run.specs.Shortest.{IsShortRoute}
use Rattle.vw_run.proofs.GoodPlans.{plan_made}
use Rattle.vw_run.proofs.compiler.plan_for.Goals as goal

pub returns-in-Ok : goal.returns-in-Ok
returns-in-Ok c =
    let flat = c.args.ordered.now.flat in
    let board = c.args.board.now in
    let routes : List Route = c.in_ok-routes.routes in
    let are = subst (λ (chips : List ℕ). AreRoutes flat board chips routes) c.as_slice.ensures c.in_ok-routes.ensures.routes in
    let short = subst (λ (chips : List ℕ). All (IsShortRoute flat board chips) routes) c.as_slice.ensures c.in_ok-routes.ensures.short in
    plan_made c.args.ordered.now board c.args.chip_of routes c.in-Ok.plan c.in-Ok.ensures.schedule are short
