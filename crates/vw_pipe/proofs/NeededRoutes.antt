-- Routes are for needed pairs, so their nets are nets of the netlist.
use Rattle.std.proofs.Common.{◌≡◌, ◌<◌, ◌+◌, ◌∙◌, ◌∷◌, ℕ, zero, suc, true, List, [], length, map, slice_get, Some, ap, sym, eq-eqb}
use Rattle.std.specs.List.{list_any}
use Rattle.std.proofs.lemmas.Bool.{and_from, or_left, or_right}
use Rattle.vw_net.specs.declared.flat.Flat.{Flat}
use Rattle.vw_plan.specs.declared.board.Board.{Board}
use Rattle.vw_plan.specs.declared.need.Route.{Route}
use Rattle.vw_plan.specs.Needs.{is_pair}
use Rattle.vw_plan.specs.Nets.{is_needed}
use Rattle.vw_plan.specs.Routes.{AreRoutes, need_of_route}
use Rattle.vw_plan.proofs.NeededPairs.{any-needed_pairs}
use Rattle.vw_plan.proofs.NeededNets.{needed_net}

-- a route of a list is listed by its pair
pub route_listed : (routes : List Route) (number : ℕ) (route : Route) → slice_get routes number ≡ Some route
    → list_any (is_pair route.net route.to) (map need_of_route routes) ≡ true
route_listed [] number route at = cc
route_listed (first ∷ routes) zero route at =
    let same : first ≡ route = cc in
    or_left _ _ (and_from _ _ (eq-eqb first.net route.net (ap (λ (r : Route). r.net) same)) (eq-eqb first.to route.to (ap (λ (r : Route). r.to) same)))
route_listed (first ∷ routes) (suc number) route at =
    let is_its = is_pair route.net route.to in
    or_right (is_its (need_of_route first)) (list_any is_its (map need_of_route routes)) (route_listed routes number route at)

module _ (flat : Flat) (board : Board) (chip_of : List ℕ) (routes : List Route) (are : AreRoutes flat board chip_of routes) where
  -- its pair is needed
  pub route_needed : (number : ℕ) (route : Route) → slice_get routes number ≡ Some route → is_needed flat chip_of route.net route.to ≡ true
  route_needed number route at =
      let same_pairs = ap (list_any (is_pair route.net route.to)) (sym are.pairs) in
      sym (any-needed_pairs flat chip_of route.net route.to) ∙ same_pairs ∙ route_listed routes number route at

  pub route_net : (number : ℕ) (route : Route) → slice_get routes number ≡ Some route → route.net < flat.inputs + length flat.cells
  route_net number route at = needed_net flat chip_of route.net route.to (route_needed number route at)
