-- Wires that follow routes: one for each need, and each leads to its node.
use Rattle.std.proofs.Common.{◌≡◌, ◌<◌, ◌≤◌, ◌+◌, ◌&&◌, ℕ, true, false, not, List, [], ◌∷◌, length, map, eqb, nat_lt, ap, refl, sym, ◌∙◌, arith, ⊎_elim, eq-eqb}
use Rattle.std.specs.List.{All, AllZip, AllPairs, count_by}
use Rattle.std.proofs.lemmas.Bool.{cases_Bool, and_from, and_parts}
use Rattle.std.proofs.lemmas.List.Elements.{All-cons, All-nil, All-head}
use Rattle.std.proofs.lemmas.List.Kept.{AllPairs-cons}
use Rattle.vw_net.specs.Steps.Bits.{one_if}
use Rattle.vw_plan.specs.declared.board.Board.{Board}
use Rattle.vw_plan.specs.declared.link.Link.{Link}
use Rattle.vw_plan.specs.declared.need.Route.{Route}
use Rattle.vw_plan.specs.declared.wire.Hop.{Hop}
use Rattle.vw_plan.specs.declared.wire.Wire.{Wire}
use Rattle.vw_plan.specs.Lead.{after_last, arrival, brings}
use Rattle.vw_plan.specs.Needs.{is_pair}
use Rattle.vw_plan.specs.Routes.{FollowsRoute, need_of_route, steps_of}
use Rattle.vw_plan.specs.Sound.{leads_to, rises, share_pin}
use Rattle.vw_plan.specs.Walks.{IsWalk}
use Rattle.vw_net.proofs.CountsOverLists.{count_cons}
use Rattle.vw_pipe.specs.Steps.FinishedSchedules.{IsAlong, uses}
use Rattle.vw_pipe.specs.Steps.Leads.{wires_of}

pub follows : (board : Board) (routes : List Route) (hops : List (List Hop)) → AllZip (IsAlong board) routes hops
    → AllZip FollowsRoute routes (wires_of routes hops)
follows board [] [] along = tt
follows board [] (sent ∷ hops) along = absurd along
follows board (route ∷ routes) [] along = absurd along
follows board (route ∷ routes) (sent ∷ hops) along = (record { net = refl; to = refl; steps = along.0.steps }, follows board routes hops along.1)

-- ---- one wire for each need

pub as_many : (net node : ℕ) (routes : List Route) (hops : List (List Hop)) → length hops ≡ length routes
    → count_by (brings net node) (wires_of routes hops) ≡ count_by (is_pair net node) (map need_of_route routes)
as_many net node [] hops long = refl
as_many net node (route ∷ routes) [] long = absurd (omega (arith, long))
as_many net node (route ∷ routes) (sent ∷ hops) long =
    let wire : Wire = record { net = route.net; to = route.to; hops = sent } in
    count_cons (brings net node) wire (wires_of routes hops)
    ∙ ap (λ (rest : ℕ). one_if (eqb route.net net && eqb route.to node) + rest) (as_many net node routes hops (omega (arith, long)))
    ∙ sym (count_cons (is_pair net node) (need_of_route route) (map need_of_route routes))

-- ---- ways

pub leads_along : (links : List Link) (from : ℕ) (further : List ℕ) (to : ℕ) (hops : List Hop)
    → map (λ hop. (hop.from, hop.to)) hops ≡ steps_of (from ∷ further) → IsWalk links from further to → leads_to from hops to ≡ true
leads_along links from [] to [] steps walk = eq-eqb from to walk
leads_along links from [] to (hop ∷ hops) steps walk = absurd (omega (arith, ap length steps))
leads_along links from (next ∷ further) to [] steps walk = absurd (omega (arith, ap length steps))
leads_along links from (next ∷ further) to (hop ∷ hops) steps walk =
    let first : (hop.from, hop.to) ≡ (from, next) = cc in
    let rest : map (λ one. (one.from, one.to)) hops ≡ steps_of (next ∷ further) = cc in
    let its_to : hop.to ≡ next = ap (λ (step : ℕ × ℕ). step.1) first in
    let its_from : hop.from ≡ from = ap (λ (step : ℕ × ℕ). step.0) first in
    let others = ap (λ (at : ℕ). leads_to at hops to) its_to ∙ leads_along links next further to hops rest walk.1 in
    and_from (eqb hop.from from) (leads_to hop.to hops to) (eq-eqb hop.from from its_from) others

-- ---- the last hop

ltb-true-lt : (a b : ℕ) → nat_lt a b ≡ true → a < b
ltb-true-lt a b is = grind (arith, is)

-- a hop has arrived by a microcycle
abbrev ArrivesBy : List Link → ℕ → Hop → Type 0
ArrivesBy links limit hop = arrival links hop + 1 ≤ limit

pub before_last : (links : List Link) (hops : List Hop) → rises links hops ≡ true → All (λ hop. arrival links hop + 1 ≤ after_last links hops) hops
before_last links [] rise = All-nil (ArrivesBy links 0)
before_last links (hop ∷ []) rise =
    let limit = arrival links hop + 1 in
    All-cons (ArrivesBy links limit) hop [] (omega arith) (All-nil (ArrivesBy links limit))
before_last links (hop ∷ next ∷ hops) rise =
    let parts = and_parts (nat_lt (arrival links hop) next.at) (rises links (next ∷ hops)) rise in
    let later : arrival links hop < next.at = ltb-true-lt (arrival links hop) next.at parts.0 in
    let rest = before_last links (next ∷ hops) parts.1 in
    let limit = after_last links (next ∷ hops) in
    let second : ArrivesBy links limit next = All-head (ArrivesBy links limit) next hops rest in
    All-cons (ArrivesBy links limit) hop (next ∷ hops) (omega (arith, later, second)) rest

-- ---- one hop a pin

share_own : (hop : Hop) → share_pin hop hop ≡ true
share_own hop =
    let same_ends = and_from _ _ (eq-eqb hop.from hop.from refl) (eq-eqb hop.to hop.to refl) in
    let same_slot = and_from _ _ (eq-eqb hop.pin hop.pin refl) (eq-eqb hop.at hop.at refl) in
    and_from _ _ same_ends same_slot

unused : (hop : Hop) (hops : List Hop) → uses hop hops ≡ 0 → All (λ other. not (share_pin hop other) ≡ true) hops
unused hop [] none = All-nil (λ other. not (share_pin hop other) ≡ true)
unused hop (other ∷ hops) none =
    let if_shares = λ (shares : share_pin hop other ≡ true).
    let one : one_if (share_pin hop other) ≡ 1 = rw shares refl in
    let whole : not (share_pin hop other) ≡ true = absurd (omega (arith, one, none)) in whole in
    let if_not = λ (apart : share_pin hop other ≡ false). let whole : not (share_pin hop other) ≡ true = rw apart refl in whole in
    let first = ⊎_elim if_shares if_not (cases_Bool (share_pin hop other)) in
    All-cons (λ one. not (share_pin hop one) ≡ true) other hops first (unused hop hops (omega (arith, none)))

pub once_apart : (hops : List Hop) → ((hop : Hop) → uses hop hops ≤ 1) → AllPairs (λ hop other. not (share_pin hop other) ≡ true) hops
once_apart [] once = λ i j d before within. absurd (omega (arith, within))
once_apart (hop ∷ hops) once =
    let one : one_if (share_pin hop hop) ≡ 1 = rw (share_own hop) refl in
    let first = unused hop hops (omega (arith, one, once hop)) in
    let others = once_apart hops (λ other. omega (arith, once other)) in
    AllPairs-cons (λ a b. not (share_pin a b) ≡ true) hop hops first others
