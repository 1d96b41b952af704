-- A schedule of which all is done is sound, and its period is the least.
use Rattle.std.proofs.Common.{◌≡◌, ◌<◌, ◌≤◌, ◌+◌, ◌-◌, ◌^◌, ℕ, zero, suc, Bool, true, false, not, List, [], ◌∷◌, length, map, max, eqb, nat_lt, slice_index, if◌then◌else◌, Some, ap, ap₂, refl, sym, ◌∙◌, subst, arith, true≢false, eq-eqb, le-ltb}
use Rattle.std.specs.Prelude.{slice_get}
use Rattle.std.specs.List.{All, AllZip, AllPairs, list_any, flat_map, count_by, sum_by}
use Rattle.std.proofs.lemmas.Bool.{and_from, and_parts, or_left, or_right}
use Rattle.std.proofs.lemmas.List.{length-map}
use Rattle.std.proofs.lemmas.List.Sums.{sum_by-cons}
use Rattle.std.proofs.lemmas.List.Elements.{All-cons, All-nil, All-head, All-tail, All-weaker}
use Rattle.vw_net.specs.declared.cell.Cell.{Cell}
use Rattle.vw_net.specs.declared.cell.Cell.TheVariants.{Gate, Latch}
use Rattle.vw_net.specs.declared.cell.Init.{Init}
use Rattle.vw_net.specs.declared.flat.Flat.{Flat}
use Rattle.vw_net.specs.declared.ordered.Ordered.{Ordered}
use Rattle.vw_net.proofs.FittingCells.{cell_fits}
use Rattle.vw_plan.specs.Chips.{IsChip, cells_on}
use Rattle.vw_plan.specs.Lead.{after_last, arrival, brings, usable}
use Rattle.vw_net.specs.Lists.{greatest}
use Rattle.vw_plan.specs.Needs.{is_pair, needed_pairs}
use Rattle.vw_plan.specs.Nets.{is_needed, node_of}
use Rattle.vw_plan.specs.Routes.{AreRoutes, FollowsRoute, IsRoute, need_of_route, steps_of}
use Rattle.vw_plan.specs.PlannedBoard.{PlannedBoard, home, planned_board}
use Rattle.vw_plan.specs.Sound.{IsRising, IsRouted, IsSentWhenUsable, IsSound, share_pin}
use Rattle.vw_plan.specs.Walks.{IsWalk}
use Rattle.vw_plan.specs.declared.link.Link.{Link}
use Rattle.vw_plan.specs.declared.board.Board.{Board}
use Rattle.vw_plan.specs.declared.need.Route.{Route}
use Rattle.vw_plan.specs.declared.plan.Plan.{Plan}
use Rattle.vw_plan.specs.declared.wire.Hop.{Hop}
use Rattle.vw_plan.specs.declared.wire.Wire.{Wire}
use Rattle.vw_plan.specs.Earliest.{AreEarliest}
use Rattle.vw_pipe.specs.declared.draft.Draft.{Draft}
use Rattle.vw_pipe.specs.Schedules.{IsSchedule}
use Rattle.vw_pipe.specs.Steps.FinishedSchedules.{IsPlanOf, IsAlong, IsTasksDone, IsSentWell, all_hops, cell_microcycle, latest}
use Rattle.vw_pipe.specs.Steps.Leads.{wires_of}
use Rattle.vw_pipe.proofs.WiresOfRoutes.{as_many, before_last, follows, leads_along, once_apart}
use Rattle.vw_plan.proofs.LeadLevels.{LeadsFollowDrivers}
use Rattle.vw_pipe.proofs.BroughtLeads.{usable_is}
use Rattle.vw_pipe.proofs.WellSent.{hops_same}
use Rattle.vw_pipe.proofs.StepsOf.{steps_long}

-- ---- the greatest of some microcycles

at_most_latest : (microcycle_of : ℕ → Cell → ℕ) (from : ℕ) (cells : List Cell) (number : ℕ) (cell : Cell) → slice_get cells number ≡ Some cell
    → microcycle_of (from + number) cell ≤ latest microcycle_of from cells
at_most_latest microcycle_of from [] number cell is = cc
at_most_latest microcycle_of from (first ∷ cells) zero cell is =
    let same : first ≡ cell = cc in
    let none : from + 0 ≡ from = omega arith in
    let its : microcycle_of (from + 0) cell ≡ microcycle_of from first = ap₂ microcycle_of none (sym same) in
    omega (arith, its)
at_most_latest microcycle_of from (first ∷ cells) (suc number) cell is =
    let next : from + suc number ≡ suc from + number = omega arith in
    omega (arith, ap (λ (at : ℕ). microcycle_of at cell) next, at_most_latest microcycle_of (suc from) cells number cell is)

pub latest_at_most : (microcycle_of : ℕ → Cell → ℕ) (limit from : ℕ) (cells : List Cell)
    → ((number : ℕ) (cell : Cell) → slice_get cells number ≡ Some cell → microcycle_of (from + number) cell ≤ limit)
    → latest microcycle_of from cells ≤ limit
latest_at_most microcycle_of limit from [] each = omega arith
latest_at_most microcycle_of limit from (first ∷ cells) each =
    let none : from + 0 ≡ from = omega arith in
    let rest = latest_at_most microcycle_of limit (suc from) cells (λ number cell is.
    let next : from + suc number ≡ suc from + number = omega arith in
    subst (λ (at : ℕ). microcycle_of at cell ≤ limit) next (each (suc number) cell is)) in
    omega (arith, rest, each 0 first refl, ap (λ (at : ℕ). microcycle_of at first) none)

pub last_within : (links : List Link) (limit : ℕ) (hops : List Hop) → All (λ hop. arrival links hop < limit) hops → after_last links hops ≤ limit
last_within links limit [] within = omega arith
last_within links limit (hop ∷ []) within =
    let early : arrival links hop < limit = All-head (λ one. arrival links one < limit) hop [] within in
    omega arith
last_within links limit (hop ∷ next ∷ hops) within =
    last_within links limit (next ∷ hops) (All-tail (λ one. arrival links one < limit) hop (next ∷ hops) within)

-- ---- routes and what needs them

-- the pair of a route is the pair of one of these routes
abbrev IsListed : List Route → Route → Type 0
IsListed routes route = list_any (is_pair route.net route.to) (map need_of_route routes) ≡ true

-- a route brings a net to a node that needs it
abbrev pub IsNeeded : Flat → List ℕ → Route → Type 0
IsNeeded flat chip_of route = is_needed flat chip_of route.net route.to ≡ true

all_listed : (routes : List Route) → All (IsListed routes) routes
all_listed [] = All-nil (IsListed [])
all_listed (route ∷ routes) =
    let own : is_pair route.net route.to (need_of_route route) ≡ true = and_from _ _ (eq-eqb route.net route.net refl) (eq-eqb route.to route.to refl) in
    let later : (one : Route) → IsListed routes one → IsListed (route ∷ routes) one = λ one is. or_right (is_pair one.net one.to (need_of_route route)) _ is in
    let others = All-weaker (IsListed routes) (IsListed (route ∷ routes)) later routes (all_listed routes) in
    All-cons (IsListed (route ∷ routes)) route routes (or_left _ _ own) others

-- the pairs that are listed are those that are needed, and each is listed once
abbrev pub Listed : Type 0
Listed = (flat : Flat) (chip_of : List ℕ) (net node : ℕ) → list_any (is_pair net node) (needed_pairs flat chip_of) ≡ is_needed flat chip_of net node

abbrev pub Once : Type 0
Once = (flat : Flat) (chip_of : List ℕ) (net node : ℕ)
    → count_by (is_pair net node) (needed_pairs flat chip_of) ≡ (if is_needed flat chip_of net node then 1 else 0)

pub all_needed : (flat : Flat) (board : Board) (chip_of : List ℕ) (routes : List Route) → Listed → AreRoutes flat board chip_of routes
    → All (IsNeeded flat chip_of) routes
all_needed flat board chip_of routes listed are =
    let needed : (route : Route) → IsListed routes route → IsNeeded flat chip_of route = λ route is.
    sym (listed flat chip_of route.net route.to) ∙ ap (list_any (is_pair route.net route.to)) (sym are.pairs) ∙ is in
    All-weaker (IsListed routes) (IsNeeded flat chip_of) needed routes (all_listed routes)

-- a needed route doesn't end where it begins
apart_ends : (flat : Flat) (chip_of : List ℕ) (route : Route) → IsNeeded flat chip_of route → node_of flat chip_of route.net ≡ route.to → ⊥
apart_ends flat chip_of route needed same =
    let home = node_of flat chip_of route.net in
    let no_own : not (eqb home route.to) ≡ true = (and_parts (not (eqb home route.to)) _ needed).0 in
    true≢false (sym no_own ∙ ap not (eq-eqb home route.to same))

-- ---- a plan

-- the wire of a route
abbrev wire_of : Route → List Hop → Wire
wire_of route sent = record { net = route.net; to = route.to; hops = sent }

module _ (ordered : Ordered) (board : Board) (plan : Plan) where
  abbrev planned : PlannedBoard
  planned = planned_board ordered board plan

  abbrev flat : Flat
  flat = ordered.flat

  -- a wire that follows a needed route leads to its node
  routed_one : (route : Route) (sent : List Hop) → IsAlong board route sent → IsRoute flat board plan.chip_of route → IsNeeded flat plan.chip_of route
      → IsRouted planned (wire_of route sent)
  routed_one route sent along way needed = by way.further refl where
    steps : map (λ hop. (hop.from, hop.to)) sent ≡ steps_of (home planned route.net ∷ way.further)
    steps = along.steps ∙ ap steps_of way.nodes

    by : (further : List ℕ) → way.further ≡ further → IsRouted planned (wire_of route sent)
    by [] is =
        let own = subst (λ (further : List ℕ). IsWalk board.links (home planned route.net) further route.to) is way.walk in
        absurd (apart_ends flat plan.chip_of route needed own)
    by (next ∷ further) is =
        let long : length sent ≡ length way.further =
        sym (length-map sent (λ (hop : Hop). (hop.from, hop.to))) ∙ ap length steps ∙ steps_long (home planned route.net) way.further in
        record {
          some = omega (arith, long, ap length is);
          leads = leads_along board.links (home planned route.net) way.further route.to sent steps way.walk;
          pins = along.pins;
        }

  routed_all : (routes : List Route) (hops : List (List Hop)) → AllZip (IsAlong board) routes hops → All (IsRoute flat board plan.chip_of) routes
      → All (IsNeeded flat plan.chip_of) routes → All (IsRouted planned) (wires_of routes hops)
  routed_all [] hops along ways needed = All-nil (IsRouted planned)
  routed_all (route ∷ routes) [] along ways needed = absurd along
  routed_all (route ∷ routes) (sent ∷ hops) along ways needed =
      let its_way = All-head (IsRoute flat board plan.chip_of) route routes ways in
      let its_need = All-head (IsNeeded flat plan.chip_of) route routes needed in
      let other_ways = All-tail (IsRoute flat board plan.chip_of) route routes ways in
      let other_needs = All-tail (IsNeeded flat plan.chip_of) route routes needed in
      let first = routed_one route sent along.0 its_way its_need in
      All-cons (IsRouted planned) (wire_of route sent) (wires_of routes hops) first (routed_all routes hops along.1 other_ways other_needs)

  rising_all : (routes : List Route) (hops : List (List Hop)) → AllZip (IsAlong board) routes hops → greatest (map (after_last board.links) hops) ≤ plan.period
      → All (IsRising planned) (wires_of routes hops)
  rising_all [] hops along early = All-nil (IsRising planned)
  rising_all (route ∷ routes) [] along early = absurd along
  rising_all (route ∷ routes) (sent ∷ hops) along early =
      let IsBeforeLast : Hop → Type 0 = λ hop. arrival board.links hop + 1 ≤ after_last board.links sent in
      let IsInPeriod : Hop → Type 0 = λ hop. arrival board.links hop < plan.period in
      let in_period : (hop : Hop) → IsBeforeLast hop → IsInPeriod hop = λ hop is. omega (arith, is, early) in
      let within = All-weaker IsBeforeLast IsInPeriod in_period sent (before_last board.links sent along.0.rising) in
      let first : IsRising planned (wire_of route sent) = record { later = along.0.rising; within = within } in
      let others = rising_all routes hops along.1 (omega (arith, early)) in
      All-cons (IsRising planned) (wire_of route sent) (wires_of routes hops) first others

  -- where wires rise within a period, the last hop is within it
  last_all : (routes : List Route) (hops : List (List Hop)) → length hops ≡ length routes → All (IsRising planned) (wires_of routes hops)
      → greatest (map (after_last board.links) hops) ≤ plan.period
  last_all routes [] long rising = omega arith
  last_all [] (sent ∷ hops) long rising = absurd (omega (arith, long))
  last_all (route ∷ routes) (sent ∷ hops) long rising =
      let wire = wire_of route sent in
      let first : IsRising planned wire = All-head (IsRising planned) wire (wires_of routes hops) rising in
      let others = All-tail (IsRising planned) wire (wires_of routes hops) rising in
      omega (arith, last_within board.links plan.period sent first.within, last_all routes hops (omega (arith, long)) others)

  -- what a latch reads is a net
  latch_within : (number d : ℕ) (init : Init) → slice_get flat.cells number ≡ Some (Latch d init) → d < flat.inputs + length flat.cells
  latch_within number d init is =
      let nets = flat.inputs + length flat.cells in
      All-head (λ net. net < nets) d [] (cell_fits nets flat.cells number (Latch d init) flat.cells_fit is).1

  module _ {chip_of : List ℕ} {routes : List Route} {draft : Draft} (done : IsTasksDone ordered board chip_of routes draft)
      (law : (one : PlannedBoard) → LeadsFollowDrivers one) (has : IsPlanOf chip_of routes draft.hops.items plan) where
    abbrev microcycle_of : ℕ → Cell → ℕ
    microcycle_of = cell_microcycle flat board chip_of routes draft.hops.items draft.leads.items

    -- what each latch reads is usable within the period, on the latch's chip
    abbrev AreInTime : Type 0
    AreInTime = (number d : ℕ) (init : Init) → slice_get flat.cells number ≡ Some (Latch d init)
        → usable planned (home planned (flat.inputs + number)) d ≤ plan.period

    -- what a latch reads is usable at its microcycle
    latch_is : (number d : ℕ) (init : Init) → slice_get flat.cells number ≡ Some (Latch d init)
        → usable planned (home planned (flat.inputs + number)) d ≡ microcycle_of number (Latch d init)
    latch_is number d init is =
        let net = flat.inputs + number in
        let no_input : nat_lt net flat.inputs ≡ false = le-ltb net flat.inputs (omega arith) in
        let its_number : net - flat.inputs ≡ number = omega arith in
        let chip = slice_index plan.chip_of number in
        let its_home : home planned net ≡ chip =
        ap (λ (input : Bool). if input then 0 else slice_index plan.chip_of (net - flat.inputs)) no_input ∙ ap (slice_index plan.chip_of) its_number in
        let leads_are = done.leads plan has d (latch_within number d init is) in
        ap (λ (node : ℕ). usable planned node d) its_home
        ∙ usable_is ordered board plan routes draft.hops.items draft.leads.items has.wires (law planned) chip d leads_are
        ∙ ap (λ (chips : List ℕ). cell_microcycle flat board chips routes draft.hops.items draft.leads.items number (Latch d init)) has.chips

    -- so the greatest of the microcycles is within the period where latches are in time
    latest_within : AreInTime → latest microcycle_of 0 flat.cells ≤ plan.period
    latest_within in_time = latest_at_most microcycle_of plan.period 0 flat.cells each where
      each : (number : ℕ) (cell : Cell) → slice_get flat.cells number ≡ Some cell → microcycle_of (0 + number) cell ≤ plan.period
      each number (Gate ins cover) is = omega arith
      each number (Latch d init) is =
          let same : 0 + number ≡ number = omega arith in
          let within : microcycle_of number (Latch d init) ≤ plan.period = omega (arith, latch_is number d init is, in_time number d init is) in
          subst (λ (at : ℕ). microcycle_of at (Latch d init) ≤ plan.period) (sym same) within

    -- a sound plan with these wires has no shorter period
    pub period_long : IsSound planned → max (max draft.after 1) (latest microcycle_of 0 flat.cells) ≤ plan.period
    period_long sound =
        let rising : All (IsRising planned) (wires_of routes draft.hops.items) = subst (All (IsRising planned)) has.wires sound.rising_microcycles in
        omega (arith, sound.a_period, done.last, last_all routes draft.hops.items done.fit.long rising, latest_within sound.latches_in_time)

    -- the latches are in time
    latches : max (max draft.after 1) (latest microcycle_of 0 flat.cells) ≤ plan.period → AreInTime
    latches long number d init is =
        let same : 0 + number ≡ number = omega arith in
        let its_place = ap (λ (at : ℕ). microcycle_of at (Latch d init)) same in
        let early = at_most_latest microcycle_of 0 flat.cells number (Latch d init) is in
        omega (arith, long, latch_is number d init is, early, its_place)

-- ---- all of it

-- what holds of all designs
pub record AreLaws : Type 0 where
  pub follow_drivers : (one : PlannedBoard) → LeadsFollowDrivers one
  pub listed : Listed
  pub once : Once

-- all is done but the period, for chips that the board has room for and for the routes between these
pub record IsReadyToPlan (ordered : Ordered) (board : Board) (chip_of : List ℕ) (routes : List Route) (draft : Draft) : Type 0 where
  pub each : length chip_of ≡ length ordered.flat.cells
  pub chips : All (IsChip board) chip_of
  pub room : (chip : ℕ) → cells_on chip_of chip ≤ board.cells
  pub routes_are : AreRoutes ordered.flat board chip_of routes
  pub done : IsTasksDone ordered board chip_of routes draft

-- the period that is long enough for the hops and for what the latches read
abbrev pub least_period : Ordered → Board → List ℕ → List Route → Draft → ℕ
least_period ordered board chip_of routes draft =
    max (max draft.after 1) (latest (cell_microcycle ordered.flat board chip_of routes draft.hops.items draft.leads.items) 0 ordered.flat.cells)

module _ {ordered : Ordered} {board : Board} (plan : Plan) {routes : List Route} {draft : Draft} (laws : AreLaws)
    (ready : IsReadyToPlan ordered board plan.chip_of routes draft) (wires : plan.wires ≡ wires_of routes draft.hops.items)
    (period : plan.period ≡ least_period ordered board plan.chip_of routes draft) where
  abbrev its : PlannedBoard
  its = planned_board ordered board plan

  abbrev hops : List (List Hop)
  hops = draft.hops.items

  has : IsPlanOf plan.chip_of routes hops plan
  has = record { chips = refl; wires = wires }

  long_enough : least_period ordered board plan.chip_of routes draft ≤ plan.period
  long_enough = omega (arith, period)

  -- the wires are those that the chips need
  as_many_brought : (net node : ℕ) → count_by (brings net node) plan.wires ≡ (if is_needed ordered.flat plan.chip_of net node then 1 else 0)
  as_many_brought net node =
      ap (count_by (brings net node)) wires
      ∙ as_many net node routes hops ready.done.fit.long
      ∙ ap (count_by (is_pair net node)) ready.routes_are.pairs
      ∙ laws.once ordered.flat plan.chip_of net node

  sound : IsSound its
  sound =
      let needed = all_needed ordered.flat board plan.chip_of routes laws.listed ready.routes_are in
      let routed = routed_all ordered board plan routes hops ready.done.along ready.routes_are.each needed in
      let rising = rising_all ordered board plan routes hops ready.done.along (omega (arith, ready.done.last, long_enough)) in
      let same_hops = ap (flat_map (λ (wire : Wire). wire.hops)) wires ∙ hops_same routes hops ready.done.fit.long in
      record {
        one_chip_each = record { each = ready.each; chips = ready.chips; room = ready.room };
        one_wire_for_each_need = as_many_brought;
        routes = subst (All (IsRouted its)) (sym wires) routed;
        rising_microcycles = subst (All (IsRising its)) (sym wires) rising;
        one_hop_a_pin = subst (AllPairs (λ hop other. not (share_pin hop other) ≡ true)) (sym same_hops) (once_apart (all_hops hops) ready.done.once);
        sent_when_usable = All-weaker (IsSentWell its) (IsSentWhenUsable its) (λ wire well. well.when_usable) plan.wires (ready.done.sent_well plan has);
        latches_in_time = latches ordered board plan ready.done laws.follow_drivers has long_enough;
        a_period = omega (arith, long_enough);
      }

  -- another sound plan with these wires has no shorter period
  no_shorter : (other : Plan) → other.chip_of ≡ plan.chip_of → other.wires ≡ plan.wires → IsSound (planned_board ordered board other)
      → plan.period ≤ other.period
  no_shorter other same_chips same_wires sound_other =
      let other_has : IsPlanOf plan.chip_of routes hops other = record { chips = same_chips; wires = same_wires ∙ wires } in
      omega (arith, period_long ordered board other ready.done laws.follow_drivers other_has sound_other, period)

  scheduled : IsSchedule ordered board plan.chip_of routes plan
  scheduled =
      let AreWellTimed : Wire → Type 0 = λ wire. AreEarliest board plan (usable its (home its wire.net) wire.net) wire.hops in
      record {
        chips = refl;
        follows = subst (AllZip FollowsRoute routes) (sym wires) (follows board routes hops ready.done.along);
        sound = sound;
        earliest = All-weaker (IsSentWell its) AreWellTimed (λ wire well. well.earliest) plan.wires (ready.done.sent_well plan has);
        least_period = λ other same_chips same_wires shorter sound_other. omega (arith, no_shorter other same_chips same_wires sound_other, shorter);
      }

pub scheduled_for : {ordered : Ordered} {board : Board} {chip_of : List ℕ} {routes : List Route} {draft : Draft} → AreLaws
    → IsReadyToPlan ordered board chip_of routes draft
    → (plan : Plan) → plan.chip_of ≡ chip_of → plan.wires ≡ wires_of routes draft.hops.items
    → plan.period ≡ least_period ordered board chip_of routes draft → IsSchedule ordered board chip_of routes plan
scheduled_for {ordered} {board} {chip_of} {routes} {draft} laws ready plan same wires period =
    let with_chips = λ (chips : List ℕ). IsReadyToPlan ordered board chips routes draft
    → plan.period ≡ least_period ordered board chips routes draft → IsSchedule ordered board chips routes plan in
    subst with_chips same (λ ready_so period_so. scheduled plan laws ready_so wires period_so) ready period

-- ---- each route has a step, so there are few

-- how many steps a route has
abbrev steps_count : Route → ℕ
steps_count route = length (steps_of route.nodes)

some_step : (flat : Flat) (board : Board) (chip_of : List ℕ) (route : Route) → IsRoute flat board chip_of route → IsNeeded flat chip_of route
    → 1 ≤ steps_count route
some_step flat board chip_of route way needed = by way.further refl where
  by : (further : List ℕ) → way.further ≡ further → 1 ≤ steps_count route
  by [] is =
      let same = subst (λ (further : List ℕ). IsWalk board.links (node_of flat chip_of route.net) further route.to) is way.walk in
      absurd (apart_ends flat chip_of route needed same)
  by (next ∷ further) is =
      let nodes = ap (λ (nodes : List ℕ). length (steps_of nodes)) way.nodes in
      omega (arith, nodes, steps_long (node_of flat chip_of route.net) way.further, ap length is)

few_by : (flat : Flat) (board : Board) (chip_of : List ℕ) (routes : List Route) → All (IsRoute flat board chip_of) routes → All (IsNeeded flat chip_of) routes
    → length routes ≤ sum_by (λ route. length (steps_of route.nodes)) routes
few_by flat board chip_of [] ways needed = omega arith
few_by flat board chip_of (route ∷ routes) ways needed =
    let its_way = All-head (IsRoute flat board chip_of) route routes ways in
    let its_need = All-head (IsNeeded flat chip_of) route routes needed in
    let other_ways = All-tail (IsRoute flat board chip_of) route routes ways in
    let other_needs = All-tail (IsNeeded flat chip_of) route routes needed in
    let sum = sum_by-cons (λ (one : Route). length (steps_of one.nodes)) route routes in
    omega (arith, sum, some_step flat board chip_of route its_way its_need, few_by flat board chip_of routes other_ways other_needs)

pub few_routes : (flat : Flat) (board : Board) (chip_of : List ℕ) (routes : List Route) → Listed → AreRoutes flat board chip_of routes → length routes < 2 ^ 30
few_routes flat board chip_of routes listed are =
    omega (arith, are.few, few_by flat board chip_of routes are.each (all_needed flat board chip_of routes listed are))
