-- The hops that bring a net to a node, by the place of their route.
use Rattle.std.proofs.Common.{◌≡◌, ◌<◌, ◌≤◌, ◌+◌, ◌-◌, ◌&&◌, ℕ, suc, Bool, true, false, List, [], ◌∷◌, length, map, slice_index, slice_index_or, Option, Some, None, ap, ap₂, ◌∙◌, eqb, refl, sym, subst, arith}
use Rattle.std.specs.Option.{option_map_or, option_or}
use Rattle.std.proofs.Math.Path.{fun_ext}
use Rattle.std.proofs.lemmas.List.{get_or-map}
use Rattle.std.specs.HashMap.{HashMap}
use Rattle.vw_plan.specs.declared.board.Board.{Board}
use Rattle.vw_plan.specs.declared.need.Route.{Route}
use Rattle.vw_plan.specs.declared.wire.Hop.{Hop}
use Rattle.vw_net.specs.FirstFound.{found_if}
use Rattle.vw_ready.specs.Pairs.{first_pair, is_number_pair, pair_in, HasPairs}
use Rattle.vw_net.proofs.Orders.{eqb_comm}
use Rattle.vw_plan.specs.Lead.{after_last}
use Rattle.vw_ready.specs.Leads.{arrival_by}
use Rattle.vw_pipe.specs.Steps.Leads.{arrived_by, route_hops_to, route_pairs}

module _ (node net : ℕ) where
  -- the number of a route, where routes are numbered from a number on, leads to the hops
  abbrev FindsFrom : ℕ → List Route → List (List Hop) → Option ℕ → Type 0
  FindsFrom from routes hops None = route_hops_to routes hops node net ≡ []
  FindsFrom from routes hops (Some place) =
      (from ≤ place) × (place < from + length routes) × (slice_index_or hops (place - from) [] ≡ route_hops_to routes hops node net)

  abbrev is_to : Route → Bool
  is_to route = eqb route.net net && eqb route.to node

  finds_one : (from : ℕ) (route : Route) (routes : List Route) (sent : List Hop) (hops : List (List Hop)) (here : Bool) → is_to route ≡ here
      → (rest : Option ℕ) → FindsFrom (suc from) routes hops rest → FindsFrom from (route ∷ routes) (sent ∷ hops) (option_or (found_if here from) rest)
  finds_one from route routes sent hops true is rest finds =
      let none : from - from ≡ 0 = omega arith in
      (omega arith, omega arith, rw (none, is) refl)
  finds_one from route routes sent hops false is None finds = rw is finds
  finds_one from route routes sent hops false is (Some place) finds =
      let later : place - from ≡ suc (place - suc from) = omega arith in
      (omega arith, omega arith, rw (later, is) finds.2)

  turned_to : (route : Route) → is_to route ≡ is_number_pair net node (route.net, route.to)
  turned_to route = ap₂ (λ (first second : Bool). first && second) (eqb_comm route.net net) (eqb_comm route.to node)

  finds_from : (from : ℕ) (routes : List Route) (hops : List (List Hop)) → length hops ≡ length routes
      → FindsFrom from routes hops (first_pair from (route_pairs routes) net node)
  finds_from from [] hops long = refl
  finds_from from (route ∷ routes) [] long = absurd (omega (arith, long))
  finds_from from (route ∷ routes) (sent ∷ hops) long =
      let in_rest = first_pair (suc from) (route_pairs routes) net node in
      let found_in_rest = finds_from (suc from) routes hops (omega (arith, long)) in
      let found = finds_one from route routes sent hops (is_to route) refl in_rest found_in_rest in
      subst (λ (here : Bool). FindsFrom from (route ∷ routes) (sent ∷ hops) (option_or (found_if here from) in_rest)) (turned_to route) found

  -- the number of a route leads to the hops
  abbrev pub Finds : List Route → List (List Hop) → Option ℕ → Type 0
  Finds routes hops None = route_hops_to routes hops node net ≡ []
  Finds routes hops (Some place) = (place < length routes) × (slice_index_or hops place [] ≡ route_hops_to routes hops node net)

  from_zero : (routes : List Route) (hops : List (List Hop)) (found : Option ℕ) → FindsFrom 0 routes hops found → Finds routes hops found
  from_zero routes hops None finds = finds
  from_zero routes hops (Some place) finds =
      let same : place - 0 ≡ place = omega arith in
      (omega (arith, finds.1), rw same at finds.2)

  -- what a table of the pairs finds
  pub finds : {S : Type 0} (routes : List Route) (hops : List (List Hop)) (table : HashMap (ℕ × ℕ) ℕ S) → length hops ≡ length routes
      → HasPairs (route_pairs routes) table → Finds routes hops (pair_in table net node)
  finds routes hops table long has =
      let found = first_pair 0 (route_pairs routes) net node in
      subst (Finds routes hops) (sym (has net node)) (from_zero routes hops found (finds_from 0 routes hops long))

-- a table of the pairs, and the arrivals of routes, tell when a net is brought to a node
pub arrived : {S : Type 0} (board : Board) (routes : List Route) (hops : List (List Hop)) (table : HashMap (ℕ × ℕ) ℕ S) (arrivals : List ℕ)
    → length hops ≡ length routes → HasPairs (route_pairs routes) table → arrivals ≡ map (after_last board.links) hops
    → arrival_by table arrivals ≡ arrived_by board routes hops
arrived board routes hops table arrivals long has are =
    fun_ext (λ net. fun_ext (λ node. by net node (pair_in table net node) (finds node net routes hops table long has))) where
      by : (net node : ℕ) (found : Option ℕ) → Finds node net routes hops found
          → option_map_or (slice_index arrivals) found 0 ≡ after_last board.links (route_hops_to routes hops node net)
      by net node None none = ap (after_last board.links) (sym none)
      by net node (Some place) there =
          ap (λ (list : List ℕ). slice_index list place) are
          ∙ get_or-map (after_last board.links) hops place [] 0 (omega (arith, there.0, long))
          ∙ ap (after_last board.links) there.1
