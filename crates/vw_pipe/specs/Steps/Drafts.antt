-- Schedules in the making. Source: this project.
use Rattle.std.specs.Prelude.{◌≡◌, ◌≤◌, ◌<◌, ◌+◌, ◌*◌, ◌^◌, ◌++◌, ℕ, Bool, true, false, List, [], ◌∷◌, length, map, max, replicate, slice_get, slice_index, slice_set, slice_index_or, Some}
use Rattle.std.specs.List.{All}
use Rattle.vw_net.specs.declared.ordered.Ordered.{Ordered}
use Rattle.vw_plan.specs.declared.board.Board.{Board}
use Rattle.vw_plan.specs.declared.need.Route.{Route}
use Rattle.vw_plan.specs.declared.wire.Hop.{Hop}
use Rattle.vw_plan.specs.Lead.{after_last, arrival}
use Rattle.vw_plan.specs.Nets.{greatest_read, node_of}
use Rattle.vw_plan.specs.Routes.{steps_of}
use Rattle.vw_slots.specs.Slots.{no_slots}
use Rattle.vw_pipe.specs.declared.draft.Draft.{Draft}
use Rattle.vw_pipe.specs.Steps.SentHops.{AreLinked, AreSent, hop_takes}
use Rattle.vw_pipe.specs.Steps.Leads.{lead_so_far, usable_so_far}

-- how late the microcycles of a draft may be that has so many taken slots
abbrev pub microcycle_limit : ℕ → ℕ
microcycle_limit taken = taken * 2 ^ 31

-- few slots of a draft are taken, and its microcycles are early
pub record IsEarly (board : Board) (draft : Draft) : Type 0 where
  pub few : length draft.table.taken < 2 ^ 30
  pub soon : All (λ lead. lead ≤ microcycle_limit (length draft.table.taken)) draft.leads.items
  pub sent : All (All (λ hop. arrival board.links hop + 1 ≤ microcycle_limit (length draft.table.taken))) draft.hops.items
  pub last : draft.after ≤ microcycle_limit (length draft.table.taken)

-- nothing is done yet
pub record IsUntouched (ordered : Ordered) (board : Board) (routes : List Route) (draft : Draft) : Type 0 where
  pub leads : draft.leads.items ≡ replicate (ordered.flat.inputs + length ordered.flat.cells) 0
  pub long : length draft.hops.items ≡ length routes
  pub none : All (λ sent. sent ≡ []) draft.hops.items
  pub arrivals : draft.arrivals.items ≡ replicate (length routes) 0
  pub table : draft.table ≡ no_slots board
  pub last : draft.after ≡ 0

-- the hops of a route of a draft
abbrev pub hops_at : Draft → ℕ → List Hop
hops_at draft number = slice_index_or draft.hops.items number []

-- one draft is another, but for the hops of one route, which are sent from a microcycle on
pub record IsSentMore (board : Board) (route : Route) (number ready : ℕ) (old new : Draft) : Type 0 where
  pub leads : new.leads ≡ old.leads
  pub hops : new.hops.items ≡ slice_set old.hops.items number (hops_at new number)
  pub sent : AreSent board old.table.taken ready (steps_of route.nodes) (hops_at new number)
  pub soon : All (λ hop. arrival board.links hop + 1 ≤ ready + length (steps_of route.nodes) * (2 ^ 30 + 16)) (hops_at new number)
  pub arrivals : new.arrivals.items ≡ map (after_last board.links) new.hops.items
  pub widths : new.table.widths ≡ old.table.widths
  pub taken : new.table.taken ≡ old.table.taken ++ map (hop_takes board) (hops_at new number)
  pub last : new.after ≡ max old.after (after_last board.links (hops_at new number))

-- one draft is another, but for the lead of one gate
pub record HasLead (ordered : Ordered) (board : Board) (chip_of : List ℕ) (routes : List Route) (place : ℕ) (old new : Draft) : Type 0 where
  pub hops : new.hops ≡ old.hops
  pub arrivals : new.arrivals ≡ old.arrivals
  pub table : new.table ≡ old.table
  pub last : new.after ≡ old.after
  pub leads : let number = slice_index ordered.order place in
      new.leads.items ≡ slice_set old.leads.items (ordered.flat.inputs + number)
      (greatest_read (lead_so_far ordered.flat board chip_of routes old.hops.items old.leads.items (slice_index chip_of number)) (slice_get ordered.flat.cells number))

-- what a task makes of a draft
abbrev pub DoesTask : Ordered → Board → List ℕ → List Route → Bool → ℕ → Draft → Draft → Type 0
DoesTask ordered board chip_of routes false place old new = HasLead ordered board chip_of routes place old new
DoesTask ordered board chip_of routes true number old new =
    (route : Route) → slice_get routes number ≡ Some route
    → IsSentMore board route number (usable_so_far ordered.flat board chip_of routes old.hops.items old.leads.items (node_of ordered.flat chip_of route.net) route.net) old new

-- a draft is as long as it has to be, it has the arrivals of its hops, and its microcycles are early
pub record IsFitDraft (ordered : Ordered) (board : Board) (routes : List Route) (draft : Draft) : Type 0 where
  pub nets : length draft.leads.items ≡ ordered.flat.inputs + length ordered.flat.cells
  pub long : length draft.hops.items ≡ length routes
  pub arrivals : draft.arrivals.items ≡ map (after_last board.links) draft.hops.items
  pub widths : draft.table.widths ≡ map (λ link. link.width) board.links
  pub early : IsEarly board draft

-- what a task needs
abbrev pub IsReadyKind : Ordered → Board → List Route → Bool → ℕ → Draft → Type 0
IsReadyKind ordered board routes false place draft = place < length ordered.order
IsReadyKind ordered board routes true number draft =
    (number < length routes) × (hops_at draft number ≡ [])
    × ((route : Route) → slice_get routes number ≡ Some route → (route.net < ordered.flat.inputs + length ordered.flat.cells)
    × (length draft.table.taken + length (steps_of route.nodes) < 2 ^ 30)
    × ((first : ℕ) (further : List ℕ) → route.nodes ≡ first ∷ further → AreLinked board.links first further))

pub record IsDraftReady (ordered : Ordered) (board : Board) (routes : List Route) (sends : Bool) (place : ℕ) (draft : Draft) : Type 0 where
  pub fit : IsFitDraft ordered board routes draft
  pub its : IsReadyKind ordered board routes sends place draft
