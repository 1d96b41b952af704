-- Shortest routes of needed pairs.
use Rattle.std.proofs.Common.{◌≡◌, ◌≢◌, ◌==◌, ◌<◌, ◌≤◌, ◌+◌, ◌&&◌, ◌||◌, not, ℕ, zero, suc, true, List, [], ◌∷◌, ◌++◌, length, map, drop, get_or, refl, sym, subst, ◌∙◌, ap, All, arith}
use Rattle.std.specs.List.{list_any}
use Rattle.std.proofs.lemmas.Bool.{and_parts, and_from, eq-eqb, eqb-false, not-true, or_left, or_right}
use Rattle.std.proofs.lemmas.List.Elements.{All-append, All-cons, All-nil, All-weaker}
use Rattle.std.proofs.Math.Seq.{drop-cons}
use Rattle.std.proofs.lemmas.List.Sums.{sum_by-le}
use Rattle.vw_net.specs.declared.flat.Flat.{Flat}
use Rattle.vw_net.specs.Order.{is_among}
use Rattle.vw_plan.specs.declared.board.Board.{Board}
use Rattle.vw_plan.specs.declared.need.Need.{Need}
use Rattle.vw_plan.specs.declared.need.Route.{Route}
use Rattle.vw_plan.specs.Chips.{IsChip}
use Rattle.vw_plan.specs.Needs.{is_pair, needed_pairs}
use Rattle.vw_plan.specs.Nets.{is_needed, is_read_at, node_of}
use Rattle.vw_plan.specs.Routes.{AreRoutes, IsRoute, need_of_route, steps_of}
use Rattle.vw_plan.proofs.ChipNumbers.{low_chips}
use Rattle.vw_plan.proofs.NeededPairs.{any-needed_pairs}
use Rattle.vw_plan.proofs.Shortest.{distance-le}
use Rattle.vw_place.proofs.PairTables.{few_pairs, pairs_within}
use Rattle.vw_pipe.proofs.StepsOf.{steps_long}
use Rattle.vw_route.specs.Routes.{IsLeastWalk, IsRouteBySteps}
use Rattle.vw_run.specs.Shortest.{IsShortRoute}

-- ---- a needed pair

-- a pair is among the pairs
own_listed : (needs : List Need) (i : ℕ) (default : Need) → i < length needs → list_any (is_pair (get_or needs i default).net (get_or needs i default).to) needs ≡ true
own_listed [] i default within = absurd (omega arith)
own_listed (need ∷ needs) zero default within =
    or_left (is_pair need.net need.to need) (list_any (is_pair need.net need.to) needs) (and_from (need.net == need.net) (need.to == need.to) (eq-eqb need.net need.net refl) (eq-eqb need.to need.to refl))
own_listed (need ∷ needs) (suc i) default within =
    let later = get_or needs i default in
    or_right (is_pair later.net later.to need) (list_any (is_pair later.net later.to) needs) (own_listed needs i default (omega arith))

needed_apart : (flat : Flat) (chip_of : List ℕ) (net node : ℕ) → is_needed flat chip_of net node ≡ true → node_of flat chip_of net ≢ node
needed_apart flat chip_of net node is =
    let parts = and_parts (not (node_of flat chip_of net == node)) (is_read_at flat chip_of net node || (node == 0 && is_among flat.outputs net)) is in
    eqb-false (node_of flat chip_of net) node (not-true (node_of flat chip_of net == node) parts.0)

-- what is known of each needed pair
pub record IsReachable (flat : Flat) (board : Board) (chip_of : List ℕ) (need : Need) : Type 0 where
  pub net : need.net < flat.inputs + length flat.cells
  pub to : need.to ≤ board.chips
  pub apart : node_of flat chip_of need.net ≢ need.to

pub reachable : (flat : Flat) (board : Board) (chip_of : List ℕ) (needs : List Need) → All (IsChip board) chip_of → needs ≡ needed_pairs flat chip_of → All (IsReachable flat board chip_of) needs
reachable flat board chip_of needs are same i default within =
    let need = get_or needs i default in
    let inside = subst (All (λ (one : Need). (one.net < flat.inputs + length flat.cells) × (one.to ≤ board.chips))) (sym same) (pairs_within flat chip_of board.chips (low_chips board chip_of are)) i default within in
    let listed = subst (λ (list : List Need). list_any (is_pair need.net need.to) list ≡ true) same (own_listed needs i default within) in
    record { net = inside.0; to = inside.1; apart = needed_apart flat chip_of need.net need.to (sym (any-needed_pairs flat chip_of need.net need.to) ∙ listed) }

-- ---- a route

pub short_route : (flat : Flat) (board : Board) (chip_of : List ℕ) (route : Route) → IsLeastWalk board (node_of flat chip_of route.net) route.to route.nodes → IsShortRoute flat board chip_of route
short_route flat board chip_of route walked =
    let from = node_of flat chip_of route.net in record {
      route_is = record { further = walked.rest; nodes = walked.begins; walk = walked.walk };
      short = ap (λ (nodes : List ℕ). length (steps_of nodes)) walked.begins ∙ steps_long from walked.rest ∙ walked.count;
    }

-- a walk by first steps is one of the least number of links
pub stepped_walk : {board : Board} {from to : ℕ} {nodes : List ℕ} → IsRouteBySteps board from to nodes → IsLeastWalk board from to nodes
stepped_walk walked = record { rest = walked.rest; begins = walked.begins; walk = walked.walk; count = walked.count }

-- a walk that was found from a node to another
pub walked_route : (flat : Flat) (board seen : Board) (chip_of : List ℕ) (route : Route) (from to : ℕ) (nodes : List ℕ) → seen ≡ board → from ≡ node_of flat chip_of route.net → to ≡ route.to → nodes ≡ route.nodes → IsLeastWalk seen from to nodes
    → IsLeastWalk board (node_of flat chip_of route.net) route.to route.nodes
walked_route flat board seen chip_of route from to nodes same_board same_from same_to same_nodes walked =
    subst (λ (list : List ℕ). IsLeastWalk board (node_of flat chip_of route.net) route.to list) same_nodes
    (subst (λ (node : ℕ). IsLeastWalk board (node_of flat chip_of route.net) node nodes) same_to
    (subst (λ (node : ℕ). IsLeastWalk board node to nodes) same_from
    (subst (λ (one : Board). IsLeastWalk one from to nodes) same_board walked)))

-- one more route
pub more_short : (flat : Flat) (board : Board) (chip_of : List ℕ) (routes : List Route) (route : Route) → All (IsShortRoute flat board chip_of) routes → IsShortRoute flat board chip_of route → All (IsShortRoute flat board chip_of) (routes ++ route ∷ [])
more_short flat board chip_of routes route all one = All-append (IsShortRoute flat board chip_of) routes (route ∷ []) all (All-cons (IsShortRoute flat board chip_of) route [] one (All-nil (IsShortRoute flat board chip_of)))

map_pushed : (routes : List Route) (route : Route) (rest : List Need) → map need_of_route (routes ++ route ∷ []) ++ rest ≡ map need_of_route routes ++ need_of_route route ∷ rest
map_pushed [] route rest = refl
map_pushed (first ∷ routes) route rest = ap (λ (list : List Need). need_of_route first ∷ list) (map_pushed routes route rest)

pub more_pairs : (needs : List Need) (i : ℕ) (default : Need) (routes : List Route) (route : Route) → i < length needs → route.net ≡ (get_or needs i default).net → route.to ≡ (get_or needs i default).to
    → map need_of_route routes ++ drop i needs ≡ needs → map need_of_route (routes ++ route ∷ []) ++ drop (i + 1) needs ≡ needs
more_pairs needs i default routes route within net to so_far =
    let need = get_or needs i default in
    let next : suc i ≡ i + 1 = omega arith in
    let same : need_of_route route ≡ need = λ j. record { net = net j; to = to j } in
    let split : drop i needs ≡ need ∷ drop (i + 1) needs = drop-cons needs i default within ∙ ap (λ (n : ℕ). need ∷ drop n needs) next in
    map_pushed routes route (drop (i + 1) needs)
    ∙ ap (λ (one : Need). map need_of_route routes ++ one ∷ drop (i + 1) needs) same
    ∙ ap (λ (list : List Need). map need_of_route routes ++ list) (sym split)
    ∙ so_far

-- ---- all of them

length_needs : (routes : List Route) → length (map need_of_route routes) ≡ length routes
length_needs [] = refl
length_needs (route ∷ routes) = ap suc (length_needs routes)

pub all_routes : (flat : Flat) (board : Board) (chip_of : List ℕ) (routes : List Route) → All (IsChip board) chip_of → map need_of_route routes ≡ needed_pairs flat chip_of → All (IsShortRoute flat board chip_of) routes
    → AreRoutes flat board chip_of routes
all_routes flat board chip_of routes are pairs short =
    let low = All-weaker (λ chip. chip ≤ board.chips) (λ chip. chip ≤ 32) (λ chip its. omega (arith, its, board.few_chips)) chip_of (low_chips board chip_of are) in
    let few = few_pairs flat chip_of low in
    let count : length routes ≡ length (needed_pairs flat chip_of) = sym (length_needs routes) ∙ ap (λ (list : List Need). length list) pairs in
    let steps = All-weaker (IsShortRoute flat board chip_of) (λ route. length (steps_of route.nodes) ≤ 32)
    (λ route is. omega (arith, is.short, distance-le board (node_of flat chip_of route.net) route.to, board.few_chips)) routes short in
    let sum = sum_by-le (λ route. length (steps_of route.nodes)) 32 routes steps in record {
      pairs = pairs;
      each = All-weaker (IsShortRoute flat board chip_of) (IsRoute flat board chip_of) (λ route is. is.route_is) routes short;
      few = omega (arith, sum, count, few);
    }
