-- the routes so far, and the pairs that are left
use Rattle.std.proofs.Common.{◌≡◌, ◌++◌, drop, map}
use Rattle.std.specs.List.{All}
use Rattle.vw_plan.specs.Routes.{need_of_route}
use Rattle.vw_run.specs.Shortest.{IsShortRoute}
use Rattle.vw_run.proofs.ShortRoutes.{IsReachable}
use Rattle.vw_run.proofs.routes.routes_of.Given as goal

abbrev pub invariant-loop-need : goal.invariant-loop-need
invariant-loop-need l = record {
  pairs : map need_of_route l.routes.items ++ drop l.need-index l.need-items ≡ l.need-items;
  short : All (IsShortRoute l.ordered.flat l.board l.chip_of) l.routes.items;
  reachable : All (IsReachable l.ordered.flat l.board l.chip_of) l.need-items;
}
