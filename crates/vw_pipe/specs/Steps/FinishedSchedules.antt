-- Schedules of which all is done but the period. Source: this project.
use Rattle.std.specs.Prelude.{◌≡◌, ◌≤◌, ◌<◌, ◌+◌, ℕ, suc, List, [], ◌∷◌, length, map, max, slice_index, if◌then◌else◌, IsTrue}
use Rattle.std.specs.List.{All, AllZip, flat_map}
use Rattle.vw_net.specs.declared.cell.Cell.{Cell}
use Rattle.vw_net.specs.declared.cell.Cell.TheVariants.{Gate, Latch}
use Rattle.vw_net.specs.declared.flat.Flat.{Flat}
use Rattle.vw_net.specs.declared.ordered.Ordered.{Ordered}
use Rattle.vw_plan.specs.declared.board.Board.{Board}
use Rattle.vw_plan.specs.declared.need.Route.{Route}
use Rattle.vw_plan.specs.declared.plan.Plan.{Plan}
use Rattle.vw_plan.specs.declared.wire.Hop.{Hop}
use Rattle.vw_plan.specs.declared.wire.Wire.{Wire}
use Rattle.vw_plan.specs.Earliest.{AreEarliest}
use Rattle.vw_plan.specs.Lead.{after_last, lead, usable}
use Rattle.vw_net.specs.Lists.{greatest}
use Rattle.vw_plan.specs.Routes.{steps_of}
use Rattle.vw_plan.specs.PlannedBoard.{PlannedBoard, home, planned_board}
use Rattle.vw_plan.specs.Sound.{IsSentWhenUsable, has_pin, rises, share_pin}
use Rattle.vw_pipe.specs.declared.draft.Draft.{Draft}
use Rattle.vw_pipe.specs.Steps.Drafts.{IsFitDraft}
use Rattle.vw_pipe.specs.Steps.Leads.{usable_so_far, wires_of}

-- a plan has these chips, and wires with these hops
pub record IsPlanOf (chip_of : List ℕ) (routes : List Route) (hops : List (List Hop)) (plan : Plan) : Type 0 where
  pub chips : plan.chip_of ≡ chip_of
  pub wires : plan.wires ≡ wires_of routes hops

-- how many of some hops share the pin and the microcycle of one
abbrev pub uses : Hop → List Hop → ℕ
uses hop [] = 0
uses hop (other ∷ hops) = (if share_pin hop other then 1 else 0) + uses hop hops

-- the hops of all routes
abbrev pub all_hops : List (List Hop) → List Hop
all_hops hops = flat_map (λ sent. sent) hops

-- the hops of a route go along its nodes, one after the other, on pins of the board
pub record IsAlong (board : Board) (route : Route) (sent : List Hop) : Type 0 where
  pub steps : map (λ hop. (hop.from, hop.to)) sent ≡ steps_of route.nodes
  pub rising : IsTrue (rises board.links sent)
  pub pins : All (λ hop. IsTrue (has_pin board.links hop)) sent

-- a wire is sent when its net is usable, and as early as it can be
pub record IsSentWell (planned : PlannedBoard) (wire : Wire) : Type 0 where
  pub when_usable : IsSentWhenUsable planned wire
  pub earliest : AreEarliest planned.board planned.plan (usable planned (home planned wire.net) wire.net) wire.hops

pub record IsTasksDone (ordered : Ordered) (board : Board) (chip_of : List ℕ) (routes : List Route) (draft : Draft) : Type 0 where
  pub fit : IsFitDraft ordered board routes draft
  pub along : AllZip (IsAlong board) routes draft.hops.items
  pub once : (hop : Hop) → uses hop (all_hops draft.hops.items) ≤ 1
  pub sent_well : (plan : Plan) → IsPlanOf chip_of routes draft.hops.items plan → All (IsSentWell (planned_board ordered board plan)) plan.wires
  pub leads : (plan : Plan) → IsPlanOf chip_of routes draft.hops.items plan → (net : ℕ) → net < ordered.flat.inputs + length ordered.flat.cells
      → let planned = planned_board ordered board plan in lead planned (home planned net) net ≡ slice_index draft.leads.items net
  pub last : draft.after ≡ greatest (map (after_last board.links) draft.hops.items)

-- the microcycle at which what a latch reads is usable on the latch's chip; 0 for a gate
abbrev pub cell_microcycle : Flat → Board → List ℕ → List Route → List (List Hop) → List ℕ → ℕ → Cell → ℕ
cell_microcycle flat board chip_of routes hops leads number (Gate ins cover) = 0
cell_microcycle flat board chip_of routes hops leads number (Latch d init) = usable_so_far flat board chip_of routes hops leads (slice_index chip_of number) d

-- the greatest of these microcycles, of some cells that are numbered from a number on
abbrev pub latest : (ℕ → Cell → ℕ) → ℕ → List Cell → ℕ
latest microcycle_of number [] = 0
latest microcycle_of number (cell ∷ cells) = max (microcycle_of number cell) (latest microcycle_of (suc number) cells)
