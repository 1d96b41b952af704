-- Schedules of which some tasks are done. Source: this project.
use Rattle.std.specs.Prelude.{◌≡◌, ◌<◌, ◌+◌, ◌==◌, ◌&&◌, ◌++◌, ℕ, Bool, true, false, List, [], length, map, take, slice_get, slice_index, slice_index_or, if◌then◌else◌, Some}
use Rattle.std.specs.List.{list_any}
use Rattle.vw_net.specs.declared.ordered.Ordered.{Ordered}
use Rattle.vw_net.specs.Order.{is_gate}
use Rattle.vw_plan.specs.declared.board.Board.{Board}
use Rattle.vw_plan.specs.declared.need.Route.{Route}
use Rattle.vw_plan.specs.declared.wire.Hop.{Hop}
use Rattle.vw_plan.specs.Lead.{after_last}
use Rattle.vw_net.specs.Lists.{greatest}
use Rattle.vw_plan.specs.Nets.{driving_cell, greatest_read, node_of}
use Rattle.vw_plan.specs.Routes.{steps_of}
use Rattle.vw_slots.specs.declared.slot.Taken.{Taken}
use Rattle.vw_slots.specs.Slots.{is_pin_taken}
use Rattle.vw_pipe.specs.declared.draft.Draft.{Draft}
use Rattle.vw_pipe.specs.declared.task.Task.{Task}
use Rattle.vw_pipe.specs.declared.turns.Turns.{Turns}
use Rattle.vw_pipe.specs.Steps.SentHops.{AreSent, hop_link, hop_takes}
use Rattle.vw_pipe.specs.Steps.FinishedSchedules.{all_hops, uses}
use Rattle.vw_pipe.specs.Steps.Drafts.{IsFitDraft, hops_at}
use Rattle.vw_pipe.specs.Steps.Leads.{lead_so_far, usable_so_far}
use Rattle.vw_pipe.specs.Steps.Tasks.{AreRising, task_rank}
use Rattle.vw_pipe.specs.Steps.Turns.{turn_at}

-- ---- which tasks are done

-- whether a task is this one
abbrev pub is_task : Bool → ℕ → Task → Bool
is_task sends place task = task_rank task.sends == task_rank sends && task.place == place

-- whether a task is among the first so many
abbrev pub is_passed : List Task → ℕ → Bool → ℕ → Bool
is_passed tasks count sends place = list_any (is_task sends place) (take count tasks)

abbrev pub no_task : Task
no_task = record { turn = 0; sends = false; place = 0 }

abbrev pub task_at : List Task → ℕ → Task
task_at tasks place = slice_index_or tasks place no_task

-- what a task is for
abbrev pub IsOfKind : Ordered → Turns → List Route → Bool → Task → Type 0
IsOfKind ordered turns routes false task = (task.place < length ordered.order) × (task.turn ≡ turn_at ordered turns.nets.items task.place)
IsOfKind ordered turns routes true task = (task.place < length routes) × (task.turn ≡ slice_index turns.routes.items task.place)

-- tasks in their order: one for each gate, and one for each route
pub record AreTasks (ordered : Ordered) (turns : Turns) (routes : List Route) (tasks : List Task) : Type 0 where
  pub kinds : (place : ℕ) → place < length tasks → IsOfKind ordered turns routes (task_at tasks place).sends (task_at tasks place)
  pub once : (place : ℕ) → place < length tasks → is_passed tasks place (task_at tasks place).sends (task_at tasks place).place ≡ false
  pub gates : (place : ℕ) → place < length ordered.order → is_passed tasks (length tasks) false place ≡ true
  pub routed : (number : ℕ) → number < length routes → is_passed tasks (length tasks) true number ≡ true
  pub rising : AreRising tasks

-- ---- leads, by the hops and leads so far

-- the lead of the gate at a place of the order
abbrev pub lead_at_place : Ordered → Board → List ℕ → List Route → List (List Hop) → List ℕ → ℕ → ℕ
lead_at_place ordered board chip_of routes hops leads place =
    let number = slice_index ordered.order place in
    greatest_read (lead_so_far ordered.flat board chip_of routes hops leads (slice_index chip_of number)) (slice_get ordered.flat.cells number)

-- when the first hop of a net's route is ready: the net is usable at its own node
abbrev pub ready_by : Ordered → Board → List ℕ → List Route → List (List Hop) → List ℕ → ℕ → ℕ
ready_by ordered board chip_of routes hops leads net = usable_so_far ordered.flat board chip_of routes hops leads (node_of ordered.flat chip_of net) net

-- ---- slots

-- the hops of a route were sent when these slots were taken, and these and their own stay so
pub record IsSentOff (ordered : Ordered) (board : Board) (chip_of : List ℕ) (routes : List Route) (draft : Draft) (route : Route) (hops : List Hop) : Type 0 where
  pub before : List Taken
  pub sent : AreSent board before (ready_by ordered board chip_of routes draft.hops.items draft.leads.items route.net) (steps_of route.nodes) hops
  pub stays : (link pin at : ℕ) → is_pin_taken (before ++ map (hop_takes board) hops) link pin at ≡ true → is_pin_taken draft.table.taken link pin at ≡ true

-- so many tasks are done
pub record IsUnderway (ordered : Ordered) (board : Board) (chip_of : List ℕ) (routes : List Route) (tasks : List Task) (count : ℕ) (draft : Draft) : Type 0 where
  pub fit : IsFitDraft ordered board routes draft
  pub none : (number : ℕ) → is_passed tasks count true number ≡ false → hops_at draft number ≡ []
  pub sent : (number : ℕ) (route : Route) → slice_get routes number ≡ Some route → is_passed tasks count true number ≡ true → IsSentOff ordered board chip_of routes draft route (hops_at draft number)
  pub worked : (place : ℕ) → place < length ordered.order → is_passed tasks count false place ≡ true
      → slice_index draft.leads.items (ordered.flat.inputs + slice_index ordered.order place) ≡ lead_at_place ordered board chip_of routes draft.hops.items draft.leads.items place
  pub zero : (net : ℕ) → is_gate (driving_cell ordered.flat net) ≡ false → slice_index draft.leads.items net ≡ 0
  pub last : draft.after ≡ greatest (map (after_last board.links) draft.hops.items)
  pub size : length draft.table.taken ≡ length (all_hops draft.hops.items)
  pub slots : (hop : Hop) → uses hop (all_hops draft.hops.items) ≡ (if is_pin_taken draft.table.taken (hop_link board hop) hop.pin hop.at then 1 else 0)
