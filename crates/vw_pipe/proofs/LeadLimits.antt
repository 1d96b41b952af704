-- How late leads can be.
use Rattle.std.proofs.Common.{◌≡◌, ◌≤◌, ◌+◌, ◌∷◌, ℕ, true, false, List, [], length, eqb, if◌then◌else◌, slice_index, slice_index_or, Option, sym, subst, ⊎_elim, arith}
use Rattle.std.specs.List.{All}
use Rattle.std.proofs.lemmas.Bool.{cases_lt}
use Rattle.std.proofs.lemmas.List.{get_or_past}
use Rattle.std.proofs.lemmas.List.Elements.{All-head, All-nil, All-tail}
use Rattle.vw_net.specs.declared.cell.Cell.{Cell}
use Rattle.vw_net.specs.declared.flat.Flat.{Flat}
use Rattle.vw_plan.specs.declared.board.Board.{Board}
use Rattle.vw_plan.specs.declared.link.Link.{Link}
use Rattle.vw_plan.specs.declared.need.Route.{Route}
use Rattle.vw_plan.specs.declared.wire.Hop.{Hop}
use Rattle.vw_plan.specs.Lead.{after_last, arrival}
use Rattle.vw_plan.specs.Nets.{greatest_read, node_of}
use Rattle.vw_plan.proofs.GreatestReads.{greatest_read-small}
use Rattle.vw_net.specs.declared.ordered.Ordered.{Ordered}
use Rattle.vw_pipe.specs.declared.draft.Draft.{Draft}
use Rattle.vw_pipe.specs.Steps.Drafts.{IsFitDraft, microcycle_limit}
use Rattle.vw_pipe.specs.Steps.Leads.{route_hops_to, lead_so_far}
use Rattle.vw_pipe.proofs.UntouchedMicrocycles.{route_hops_to-place, route_place}

-- a hop has arrived by a microcycle
abbrev pub HasArrived : List Link → ℕ → Hop → Type 0
HasArrived links top hop = arrival links hop + 1 ≤ top

pub last_low : (links : List Link) (top : ℕ) (hops : List Hop) → All (HasArrived links top) hops → after_last links hops ≤ top
last_low links top [] low = omega arith
last_low links top (hop ∷ []) low = omega (arith, All-head (HasArrived links top) hop [] low)
last_low links top (hop ∷ next ∷ hops) low = last_low links top (next ∷ hops) (All-tail (HasArrived links top) hop (next ∷ hops) low)

pub hops_low : (links : List Link) (top : ℕ) (hops : List (List Hop)) (number : ℕ)
    → All (All (HasArrived links top)) hops → All (HasArrived links top) (slice_index_or hops number [])
hops_low links top hops number low =
    let if_past = λ (past : length hops ≤ number).
    let none = get_or_past hops number [] past in
    subst (All (HasArrived links top)) (sym none) (All-nil (HasArrived links top)) in
    ⊎_elim (λ within. low number [] within) if_past (cases_lt number (length hops))

pub index_low : (top : ℕ) (leads : List ℕ) (net : ℕ) → All (λ lead. lead ≤ top) leads → slice_index leads net ≤ top
index_low top leads net low =
    let if_past = λ (past : length leads ≤ net).
    let none : slice_index leads net ≡ 0 = get_or_past leads net 0 past in
    let whole : slice_index leads net ≤ top = omega (arith, none) in whole in
    ⊎_elim (λ within. low net 0 within) if_past (cases_lt net (length leads))

-- no hop and no lead is later than a microcycle
pub record AreLow (board : Board) (routes : List Route) (hops : List (List Hop)) (leads : List ℕ) (top : ℕ) : Type 0 where
  pub long : length hops ≡ length routes
  pub arrived : All (All (HasArrived board.links top)) hops
  pub worked : All (λ lead. lead ≤ top) leads

-- so it is with a draft that is fit
pub fit_low : {ordered : Ordered} {board : Board} {routes : List Route} {draft : Draft} → IsFitDraft ordered board routes draft
    → AreLow board routes draft.hops.items draft.leads.items (microcycle_limit (length draft.table.taken))
fit_low fit = record { long = fit.long; arrived = fit.early.sent; worked = fit.early.soon }

module _ (flat : Flat) (chip_of : List ℕ) {board : Board} {routes : List Route} {hops : List (List Hop)} {leads : List ℕ} {top : ℕ}
    (low : AreLow board routes hops leads top) where
  -- by the hops of routes, too
  away_low : (node net : ℕ) → after_last board.links (route_hops_to routes hops node net) ≤ top
  away_low node net =
      let its_hops = hops_low board.links top hops (route_place routes net node) low.arrived in
      let brought = subst (All (HasArrived board.links top)) (sym (route_hops_to-place routes hops node net low.long)) its_hops in
      last_low board.links top (route_hops_to routes hops node net) brought

  pub lead_low : (node net : ℕ) → lead_so_far flat board chip_of routes hops leads node net ≤ top
  lead_low node net =
      let away = after_last board.links (route_hops_to routes hops node net) in
      elim (eqb (node_of flat chip_of net) node) as (λ own. (if own then slice_index leads net else away) ≤ top) [
        | true ↦ index_low top leads net low.worked
        | false ↦ away_low node net
      ]

  pub read_low : (node : ℕ) (cell : Option Cell) → greatest_read (lead_so_far flat board chip_of routes hops leads node) cell ≤ top
  read_low node = greatest_read-small (lead_so_far flat board chip_of routes hops leads node) top (lead_low node)
