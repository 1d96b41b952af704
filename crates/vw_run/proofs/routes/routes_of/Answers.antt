use Rattle.std.proofs.Common.{◌≡◌, ◌≤◌, ◌+◌, List, [], ◌++◌, length, map, drop, sym, subst, ◌∙◌, ap, append-nil}
use Rattle.std.specs.List.{All}
use Rattle.std.proofs.lemmas.List.{drop_all}
use Rattle.std.proofs.lemmas.List.Elements.{All-nil}
use Rattle.vw_plan.specs.declared.need.Need.{Need}
use Rattle.vw_plan.specs.declared.need.Route.{Route}
use Rattle.vw_plan.specs.Routes.{AreRoutes, need_of_route}
use Rattle.vw_run.specs.Shortest.{IsShortRoute}
use Rattle.vw_run.proofs.ShortRoutes.{all_routes, more_pairs, more_short, reachable}
use Rattle.vw_run.proofs.routes.routes_of.Goals as goal

pub loop-need-init : goal.loop-need-init
loop-need-init c =
    let flat = c.args.ordered.now.flat in
    let none = c.in_ok-routes.ensures.items in
    let needs = c.as_slice-need-items.result.now in record {
      pairs = ap (λ (routes : List Route). map need_of_route routes ++ needs) none;
      short = subst (All (IsShortRoute flat c.args.board.now c.args.chip_of.now)) (sym none) (All-nil (IsShortRoute flat c.args.board.now c.args.chip_of.now));
      reachable = reachable flat c.args.board.now c.args.chip_of.now needs c.requires.chips (c.as_slice-need-items.ensures ∙ c.in_ok-needs.ensures);
    }

pub loop-need-preserved : goal.loop-need-preserved
loop-need-preserved c =
    let flat = c.args.ordered.now.flat in
    let board = c.args.board.now in
    let chips = c.args.chip_of.now in
    let needs = c.as_slice-need-items.result.now in
    let before : List Route = c.loop-need.routes.items in
    let route : Route = c.in_ok-route_of.field-0 in
    let pushed = c.in_ok-push.ensures.items in record {
      pairs = subst (λ (routes : List Route). map need_of_route routes ++ drop (c.loop-need.need-index + 1) needs ≡ needs) (sym pushed)
          (more_pairs needs c.loop-need.need-index _ before route c.loop-need-test.true c.in_ok-route_of.ensures.net c.in_ok-route_of.ensures.to c.loop-need.invariant.pairs);
      short = subst (All (IsShortRoute flat board chips)) (sym pushed) (more_short flat board chips before route c.loop-need.invariant.short c.in_ok-route_of.ensures.short);
      reachable = c.loop-need.invariant.reachable;
    }

pub returns-clause-routes : goal.returns-clause-routes
returns-clause-routes c =
    let flat = c.args.ordered.now.flat in
    let board = c.args.board.now in
    let chips = c.args.chip_of.now in
    let needs = c.as_slice-need-items.result.now in
    let routes = c.loop-need.routes.items in
    let done : length needs ≤ c.loop-need.need-index = c.loop-need-test.false in
    let rest : drop c.loop-need.need-index needs ≡ [] = drop_all c.loop-need.need-index needs done in
    let pairs = sym (append-nil (map need_of_route routes)) ∙ ap (λ (list : List Need). map need_of_route routes ++ list) (sym rest) ∙ c.loop-need.invariant.pairs ∙ c.as_slice-need-items.ensures ∙ c.in_ok-needs.ensures in
    subst (AreRoutes flat board chips) (sym c.of.ensures) (all_routes flat board chips routes c.requires.chips pairs c.loop-need.invariant.short)
