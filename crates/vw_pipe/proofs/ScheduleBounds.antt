-- How many hops and how late microcycles a schedule has.
use Rattle.std.proofs.Common.{◌≡◌, ◌≤◌, ◌+◌, ◌^◌, ◌&&◌, ℕ, suc, true, false, List, [], ◌∷◌, length, eqb, slice_index, if◌then◌else◌, Some, ap, ap₂, refl, sym, ◌∙◌, arith}
use Rattle.std.specs.Prelude.{slice_get}
use Rattle.std.specs.List.{All, AllZip, sum_by}
use Rattle.std.proofs.lemmas.List.{length-map}
use Rattle.std.proofs.lemmas.List.Elements.{All-cons, All-nil, All-head, All-tail, All-weaker}
use Rattle.std.proofs.lemmas.List.Sums.{sum_by-cons}
use Rattle.vw_net.specs.declared.cell.Cell.{Cell}
use Rattle.vw_net.specs.declared.cell.Cell.TheVariants.{Gate, Latch}
use Rattle.vw_net.specs.declared.ordered.Ordered.{Ordered}
use Rattle.vw_net.specs.Order.{is_gate}
use Rattle.vw_plan.specs.declared.board.Board.{Board}
use Rattle.vw_plan.specs.declared.link.Link.{Link}
use Rattle.vw_plan.specs.declared.need.Route.{Route}
use Rattle.vw_plan.specs.declared.wire.Hop.{Hop}
use Rattle.vw_plan.specs.declared.wire.Wire.{Wire}
use Rattle.vw_plan.specs.Nets.{driving_cell, node_of}
use Rattle.vw_plan.specs.Routes.{steps_of}
use Rattle.vw_pipe.specs.declared.draft.Draft.{Draft}
use Rattle.vw_pipe.specs.Steps.FinishedSchedules.{IsAlong, cell_microcycle, latest}
use Rattle.vw_pipe.specs.Steps.Drafts.{IsFitDraft, microcycle_limit}
use Rattle.vw_pipe.specs.Steps.Leads.{usable_so_far, wires_of}
use Rattle.vw_pipe.proofs.LeadLimits.{HasArrived, fit_low, lead_low}
use Rattle.vw_pipe.proofs.Scheduled.{latest_at_most}

pub as_many_wires : (routes : List Route) (hops : List (List Hop)) → length hops ≡ length routes → length (wires_of routes hops) ≡ length routes
as_many_wires [] hops long = refl
as_many_wires (route ∷ routes) [] long = long
as_many_wires (route ∷ routes) (sent ∷ hops) long = ap suc (as_many_wires routes hops (omega (arith, long)))

pub as_many_hops : (board : Board) (routes : List Route) (hops : List (List Hop)) → AllZip (IsAlong board) routes hops
    → sum_by (λ wire. length wire.hops) (wires_of routes hops) ≡ sum_by (λ route. length (steps_of route.nodes)) routes
as_many_hops board [] hops along = refl
as_many_hops board (route ∷ routes) [] along = absurd along
as_many_hops board (route ∷ routes) (sent ∷ hops) along =
    let wire : Wire = record { net = route.net; to = route.to; hops = sent } in
    let its : length sent ≡ length (steps_of route.nodes) = sym (length-map sent (λ (hop : Hop). (hop.from, hop.to))) ∙ ap length along.0.steps in
    sum_by-cons (λ (one : Wire). length one.hops) wire (wires_of routes hops)
    ∙ ap₂ (λ (a b : ℕ). a + b) its (as_many_hops board routes hops along.1)
    ∙ sym (sum_by-cons (λ (one : Route). length (steps_of one.nodes)) route routes)

-- each hop of a wire leaves early
abbrev LeavesEarly : Wire → Type 0
LeavesEarly wire = All (λ hop. hop.at ≤ 2 ^ 62) wire.hops

pub wires_early : (links : List Link) (bound : ℕ) (routes : List Route) (hops : List (List Hop)) → bound ≤ 2 ^ 62
    → All (All (HasArrived links bound)) hops → All (λ wire. All (λ hop. hop.at ≤ 2 ^ 62) wire.hops) (wires_of routes hops)
wires_early links bound [] hops small early = All-nil LeavesEarly
wires_early links bound (route ∷ routes) [] small early = All-nil LeavesEarly
wires_early links bound (route ∷ routes) (sent ∷ hops) small early =
    let wire : Wire = record { net = route.net; to = route.to; hops = sent } in
    let first = All-head (All (HasArrived links bound)) sent hops early in
    let others = All-tail (All (HasArrived links bound)) sent hops early in
    let its_hops = All-weaker (HasArrived links bound) (λ hop. hop.at ≤ 2 ^ 62) (λ hop is. omega (arith, is, small)) sent first in
    All-cons LeavesEarly wire (wires_of routes hops) its_hops (wires_early links bound routes hops small others)

module _ {ordered : Ordered} {board : Board} {routes : List Route} {draft : Draft} (chip_of : List ℕ) (fit : IsFitDraft ordered board routes draft) where
  abbrev last_microcycle : ℕ
  last_microcycle = microcycle_limit (length draft.table.taken)

  -- when a net is usable at a node
  abbrev usable_in : ℕ → ℕ → ℕ
  usable_in = usable_so_far ordered.flat board chip_of routes draft.hops.items draft.leads.items

  -- when what a latch reads is usable
  abbrev microcycle_of : ℕ → Cell → ℕ
  microcycle_of = cell_microcycle ordered.flat board chip_of routes draft.hops.items draft.leads.items

  usable_early : (node net : ℕ) → usable_in node net ≤ last_microcycle + 15
  usable_early node net =
      let gate = is_gate (driving_cell ordered.flat net) && eqb (node_of ordered.flat chip_of net) node in
      let settle : (if gate then board.settle else 0) ≤ 15 = elim gate as (λ is. (if is then board.settle else 0) ≤ 15) [
        | true ↦ board.quick
        | false ↦ omega arith
      ] in
      omega (arith, lead_low ordered.flat chip_of (fit_low fit) node net, settle)

  pub latest_early : latest (cell_microcycle ordered.flat board chip_of routes draft.hops.items draft.leads.items) 0 ordered.flat.cells
      ≤ microcycle_limit (length draft.table.taken) + 15
  latest_early = latest_at_most microcycle_of (last_microcycle + 15) 0 ordered.flat.cells each where
    each : (number : ℕ) (cell : Cell) → slice_get ordered.flat.cells number ≡ Some cell → microcycle_of (0 + number) cell ≤ last_microcycle + 15
    each number (Gate ins cover) is = omega arith
    each number (Latch d init) is = usable_early (slice_index chip_of (0 + number)) d
