-- What the next action of a node says of the entry at which the node stands.
use Rattle.std.proofs.Common.{◌≡◌, ◌<◌, ◌≤◌, ◌-◌, ℕ, Bool, true, false, List, length, nat_lt, slice_get, if◌then◌else◌, refl, ⊎_elim, Some, None}
use Rattle.std.proofs.lemmas.Bool.{ltb-true}
use Rattle.vw_prog.specs.declared.action.Action.{Action}
use Rattle.vw_prog.specs.declared.action.Action.TheVariants.{Evaluate, Send, Step, Take}
use Rattle.vw_prog.specs.declared.entry.Entry.{Entry}
use Rattle.vw_prog.specs.declared.job.Job.{Job}
use Rattle.vw_prog.specs.Actions.{action_of, actions}
use Rattle.vw_prog.specs.Scripts.{planned_of}
use Rattle.vw_prog.specs.Timetable.{entries_at, is_evaluating, is_sending, timetable}
use Rattle.vw_node.specs.States.{NodeState, next_action}
use Rattle.vw_node.proofs.EntryKinds.{next_entry}

module _ (job : Job) (node : ℕ) (state : NodeState) where
  -- what the node does in one clock
  abbrev pub own_entries : List Entry
  own_entries = entries_at node (timetable (planned_of job))

  -- how many inputs the design has
  abbrev inputs : ℕ
  inputs = job.checked.ordered.flat.inputs

  -- the node has clocks to come, and comes to this action next
  abbrev pub IsNow : Action → Type 0
  IsNow action = (state.clock < length job.rows) × (slice_get (actions (planned_of job) node) state.made ≡ Some action)

  pub open_next : (action : Action) → next_action job node state ≡ Some action → IsNow action
  open_next action is = by (nat_lt state.clock (length job.rows)) refl is where
    by : (left : Bool) → nat_lt state.clock (length job.rows) ≡ left
        → (if left then slice_get (actions (planned_of job) node) state.made else None) ≡ Some action → IsNow action
    by true test at = (ltb-true state.clock (length job.rows) test, at)
    by false test at = cc

  -- an entry at which the node stands, and which has it make this action; or the step, behind the last entry
  abbrev HasEntry : Action → Type 0
  HasEntry action = (entry : Entry) × ((slice_get own_entries state.made ≡ Some entry) × (action ≡ action_of inputs entry))

  abbrev IsLast : Action → Type 0
  IsLast action = (state.made ≡ length own_entries) × (action ≡ Step)

  -- the node has clocks to come, and stands at an entry that has it make this action
  pub record StandsAt (action : Action) : Type 0 where
    pub unfinished : state.clock < length job.rows
    pub entry : Entry
    pub here : slice_get own_entries state.made ≡ Some entry
    pub action_is : action ≡ action_of inputs entry

  module _ (under : state.made ≤ length own_entries) where
    -- an action that isn't the step comes of an entry
    pub stands_at : (action : Action) → next_action job node state ≡ Some action → (action ≡ Step → ⊥) → StandsAt action
    stands_at action is no_step =
        let now = open_next action is in
        let if_entry = λ (found : HasEntry action).
        let stands : StandsAt action = record { unfinished = now.0; entry = found.0; here = found.1.0; action_is = found.1.1 } in stands in
        let if_step = λ (last : IsLast action). absurd (no_step last.1) in
        ⊎_elim if_entry if_step (next_entry (planned_of job) node state.made under action now.1)

    -- before the step all entries were made
    pub all_made : next_action job node state ≡ Some Step → (state.clock < length job.rows) × (state.made ≡ length own_entries)
    all_made is = (now.0, ⊎_elim if_entry (λ (last : IsLast Step). last.0) (next_entry (planned_of job) node state.made under Step now.1)) where
      now : IsNow Step
      now = open_next Step is

      no_step : (gate net link pin : ℕ) (first second : Bool)
          → Step ≡ (if first then Evaluate gate else (if second then Send link pin net else Take link pin net)) → ⊥
      no_step gate net link pin true second same = cc
      no_step gate net link pin false true same = cc
      no_step gate net link pin false false same = cc

      if_entry : HasEntry Step → state.made ≡ length own_entries
      if_entry found =
          let entry = found.0 in
          absurd (no_step (entry.net - inputs) entry.net entry.link entry.place (is_evaluating entry) (is_sending entry) found.1.1)
