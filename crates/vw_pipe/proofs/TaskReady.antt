-- The next task is ready to be done.
use Rattle.std.proofs.Common.{◌≡◌, ◌<◌, ◌≤◌, ◌+◌, ◌∙◌, ◌^◌, ◌∷◌, ◌++◌, ℕ, zero, suc, Bool, true, false, List, [], length, length-append, get_or, slice_get, slice_index_or, Some, ap, refl, sym, subst, ⊎_elim, arith}
use Rattle.std.specs.Prelude.{sum_by}
use Rattle.std.proofs.lemmas.Bool.{cases_Bool}
use Rattle.std.proofs.lemmas.List.Concat.{flat_map-cons}
use Rattle.std.proofs.lemmas.List.Sums.{sum_by-cons}
use Rattle.std.proofs.lemmas.Option.{get_or_from_slice_get, slice_get_within}
use Rattle.vw_net.specs.declared.flat.Flat.{Flat}
use Rattle.vw_net.specs.declared.ordered.Ordered.{Ordered}
use Rattle.vw_plan.specs.declared.board.Board.{Board}
use Rattle.vw_plan.specs.declared.link.Link.{Link}
use Rattle.vw_plan.specs.declared.need.Route.{Route}
use Rattle.vw_plan.specs.declared.wire.Hop.{Hop}
use Rattle.vw_plan.specs.Lead.{arrival}
use Rattle.vw_plan.specs.Nets.{node_of}
use Rattle.vw_plan.specs.Routes.{AreRoutes, IsRoute, steps_of}
use Rattle.vw_plan.specs.Walks.{IsWalk}
use Rattle.vw_slots.specs.declared.slot.Taken.{Taken}
use Rattle.vw_pipe.specs.declared.draft.Draft.{Draft}
use Rattle.vw_pipe.specs.declared.task.Task.{Task}
use Rattle.vw_pipe.specs.declared.turns.Turns.{Turns}
use Rattle.vw_pipe.specs.Steps.SentHops.{AreLinked, AreSent, hop_takes}
use Rattle.vw_pipe.specs.Steps.FinishedSchedules.{all_hops}
use Rattle.vw_pipe.specs.Steps.Drafts.{IsDraftReady, IsReadyKind, hops_at}
use Rattle.vw_pipe.specs.Steps.Underway.{IsOfKind, IsUnderway, is_passed, task_at}
use Rattle.vw_pipe.proofs.DoneTasks.{IsAgenda}
use Rattle.vw_pipe.proofs.NeededRoutes.{route_net}

-- hops have as many steps
pub sent_long : (board : Board) (taken : List Taken) (ready : ℕ) (steps : List (ℕ × ℕ)) (hops : List Hop) → AreSent board taken ready steps hops
    → length hops ≡ length steps
sent_long board taken ready [] [] sent = refl
sent_long board taken ready [] (hop ∷ hops) sent = absurd sent
sent_long board taken ready (step ∷ steps) [] sent = absurd sent
sent_long board taken ready (step ∷ steps) (hop ∷ hops) sent =
    ap suc (sent_long board (taken ++ hop_takes board hop ∷ []) (arrival board.links hop + 1) steps hops sent.2)

-- a walk goes over links
pub walk_linked : (links : List Link) (from : ℕ) (further : List ℕ) (to : ℕ) → IsWalk links from further to → AreLinked links from further
walk_linked links from [] to walk = tt
walk_linked links from (node ∷ further) to walk = (walk.0, walk_linked links node further to walk.1)

-- the nodes of a route are linked
pub route_linked : {flat : Flat} {board : Board} {chip_of : List ℕ} {route : Route} → IsRoute flat board chip_of route
    → (first : ℕ) (further : List ℕ) → route.nodes ≡ first ∷ further → AreLinked board.links first further
route_linked {flat} {board} {chip_of} {route} is first further nodes =
    let home = node_of flat chip_of route.net in
    let same : home ∷ is.further ≡ first ∷ further = sym is.nodes ∙ nodes in
    let heads : home ≡ first = ap (λ (list : List ℕ). get_or list 0 0) same in
    let tails : is.further ≡ further = cc in
    let linked = walk_linked board.links home is.further route.to is.walk in
    subst (λ (from : ℕ). AreLinked board.links from further) heads (subst (AreLinked board.links home) tails linked)

-- what holds of all routes, of one
pub its_route : {flat : Flat} {board : Board} {chip_of : List ℕ} {routes : List Route} → AreRoutes flat board chip_of routes
    → (number : ℕ) (route : Route) → slice_get routes number ≡ Some route → IsRoute flat board chip_of route
its_route {flat} {board} {chip_of} {routes} are number route at =
    let its = are.each number route (slice_get_within routes number route at) in
    subst (IsRoute flat board chip_of) (get_or_from_slice_get routes number route route at) its

abbrev step_count : List Route → ℕ
step_count routes = sum_by (λ route. length (steps_of route.nodes)) routes

count-cons : (route : Route) (routes : List Route) → step_count (route ∷ routes) ≡ length (steps_of route.nodes) + step_count routes
count-cons route routes = sum_by-cons (λ (one : Route). length (steps_of one.nodes)) route routes

-- the hops of one route more
pub hops-cons : (sent : List Hop) (hops : List (List Hop)) → length (all_hops (sent ∷ hops)) ≡ length sent + length (all_hops hops)
hops-cons sent hops = ap length (flat_map-cons (λ (one : List Hop). one) sent hops) ∙ length-append sent (all_hops hops)

-- no route has more hops than steps
abbrev AreFew : List Route → List (List Hop) → Type 0
AreFew routes hops = (number : ℕ) (route : Route) → slice_get routes number ≡ Some route
    → length (slice_index_or hops number []) ≤ length (steps_of route.nodes)

few_all : (routes : List Route) (hops : List (List Hop)) → length hops ≡ length routes → AreFew routes hops → length (all_hops hops) ≤ step_count routes
few_all [] [] long few = omega arith
few_all [] (sent ∷ hops) long few = absurd (omega (arith, long))
few_all (route ∷ routes) [] long few = absurd (omega (arith, long))
few_all (route ∷ routes) (sent ∷ hops) long few =
    let rest = few_all routes hops (omega (arith, long)) (λ number other at. few (suc number) other at) in
    omega (arith, count-cons route routes, hops-cons sent hops, few 0 route refl, rest)

-- there is room for the hops of one that has none
few_more : (routes : List Route) (hops : List (List Hop)) → length hops ≡ length routes → AreFew routes hops
    → (number : ℕ) (route : Route) → slice_get routes number ≡ Some route → slice_index_or hops number [] ≡ []
    → length (all_hops hops) + length (steps_of route.nodes) ≤ step_count routes
few_more [] hops long few number route at none = cc
few_more (first ∷ routes) [] long few number route at none = absurd (omega (arith, long))
few_more (first ∷ routes) (sent ∷ hops) long few zero route at none =
    let is : first ≡ route = cc in
    let same : length (steps_of first.nodes) ≡ length (steps_of route.nodes) = ap (λ (r : Route). length (steps_of r.nodes)) is in
    let empty : length sent ≡ 0 = ap length none in
    let rest = few_all routes hops (omega (arith, long)) (λ number other at. few (suc number) other at) in
    omega (arith, count-cons first routes, hops-cons sent hops, same, empty, rest)
few_more (first ∷ routes) (sent ∷ hops) long few (suc number) route at none =
    let rest = few_more routes hops (omega (arith, long)) (λ place other there. few (suc place) other there) number route at none in
    omega (arith, count-cons first routes, hops-cons sent hops, few 0 first refl, rest)

module _ {ordered : Ordered} {board : Board} {chip_of : List ℕ} {routes : List Route} {turns : Turns} {tasks : List Task}
    (agenda : IsAgenda ordered board chip_of routes turns tasks)
    {count : ℕ} (within : count < length tasks) {draft : Draft} (way : IsUnderway ordered board chip_of routes tasks count draft) where
  -- hops so far are no more than steps
  few_so_far : AreFew routes draft.hops.items
  few_so_far number route at =
      let IsShort = length (hops_at draft number) ≤ length (steps_of route.nodes) in
      let if_done = λ (done : is_passed tasks count true number ≡ true).
      let off = way.sent number route at done in
      let long = sent_long board off.before _ (steps_of route.nodes) (hops_at draft number) off.sent in
      let whole : IsShort = omega (arith, long) in whole in
      let if_not = λ (not : is_passed tasks count true number ≡ false).
      let empty : length (hops_at draft number) ≡ 0 = ap length (way.none number not) in
      let whole : IsShort = omega (arith, empty) in whole in
      ⊎_elim if_done if_not (cases_Bool (is_passed tasks count true number))

  -- the room that a route needs
  pub room : (number : ℕ) (route : Route) → slice_get routes number ≡ Some route → hops_at draft number ≡ []
      → length draft.table.taken + length (steps_of route.nodes) < 2 ^ 30
  room number route at none =
      let few = few_more routes draft.hops.items way.fit.long few_so_far number route at none in
      omega (arith, way.size, few, agenda.routes_are.few)

  by_kind : (sends : Bool) (task : Task) → IsOfKind ordered turns routes sends task → is_passed tasks count sends task.place ≡ false
      → IsReadyKind ordered board routes sends task.place draft
  by_kind false task kind not = kind.0
  by_kind true task kind not = (
    kind.0,
    way.none task.place not,
    λ route at. (
      route_net ordered.flat board chip_of routes agenda.routes_are task.place route at,
      room task.place route at (way.none task.place not),
      route_linked (its_route agenda.routes_are task.place route at),
    ),
  )

  pub task_ready : IsDraftReady ordered board routes (task_at tasks count).sends (task_at tasks count).place draft
  task_ready =
      let task = task_at tasks count in
      record {
        fit = way.fit;
        its = by_kind task.sends task (agenda.tasks_are.kinds count within) (agenda.tasks_are.once count within);
      }
