-- A board that stands before a clock of a planned design: what it writes, carries and comes to, in terms of the design.
use Rattle.std.proofs.Common.{◌≡◌, ◌∙◌, ℕ, Bool, List, Result, Ok, Err, ap, ap₂, subst}
use Rattle.std.specs.Prelude.{OnOk}
use Rattle.vw_plan.specs.declared.checked.Checked.{Checked}
use Rattle.vw_plan.specs.PlannedBoard.{planned_board}
use Rattle.vw_prog.specs.declared.job.Job.{Job}
use Rattle.vw_prog.specs.Fabric.{Carried}
use Rattle.vw_prog.specs.Scripts.{planned_of}
use Rattle.vw_trace.specs.declared.fault.RunFault.{RunFault}
use Rattle.vw_trace.specs.Engines.{SeenEngine, engine_after}
use Rattle.vw_trace.specs.FlatTrace.{trace_until}
use Rattle.vw_trace.specs.Streamed.{DoneBy, worked_by}
use Rattle.vw_trace.specs.Triggers.{worked}
use Rattle.vw_batches.specs.Runs.{engine_of}
use Rattle.vw_batches.specs.Traffic.{HaveCarried}

module _ (job : Job) {checked : Checked} {first : ℕ} {state : List Bool} (same : job.checked ≡ checked) (clock : job.first ≡ first) (start : job.start ≡ state) (these : List (List Bool)) where
  pub its_text : (until : Bool) (probes : ℕ) → trace_until until probes job.first job.start job.checked.ordered.flat these ≡ trace_until until probes first state checked.ordered.flat these
  its_text until probes =
      ap (λ (one : Checked). trace_until until probes job.first job.start one.ordered.flat these) same
      ∙ ap₂ (λ (n : ℕ) (bits : List Bool). trace_until until probes n bits checked.ordered.flat these) clock start

  -- the rows that are worked out
  pub its_worked : (until : Bool) → worked_by until (engine_of job) these ≡ worked until checked.ordered.flat state these
  its_worked until =
      ap (λ (one : Checked). worked until one.ordered.flat job.start these) same ∙ ap (λ (bits : List Bool). worked until checked.ordered.flat bits these) start

  pub its_words : (workers : ℕ) (before after : Carried) → HaveCarried workers (planned_of job) job.first job.start before after these
      → HaveCarried workers (planned_board checked.ordered checked.board checked.plan) first state before after these
  its_words workers before after carried =
      subst (λ (n : ℕ). HaveCarried workers (planned_board checked.ordered checked.board checked.plan) n state before after these) clock
      (subst (λ (bits : List Bool). HaveCarried workers (planned_board checked.ordered checked.board checked.plan) job.first bits before after these) start
      (subst (λ (one : Checked). HaveCarried workers (planned_board one.ordered one.board one.plan) job.first job.start before after these) same carried))

  -- where an engine of this netlist stands that stood before this clock
  pub its_end : (now : SeenEngine) → now ≡ engine_after (engine_of job) these → now ≡ engine_after (record { netlist = checked.ordered.flat; clock = first; state = state }) these
  its_end now is =
      is ∙ ap (λ (one : Checked). engine_after (record { netlist = one.ordered.flat; clock = job.first; state = job.start }) these) same
      ∙ ap₂ (λ (n : ℕ) (bits : List Bool). engine_after (record { netlist = checked.ordered.flat; clock = n; state = bits }) these) clock start

-- what is done for the rows that are worked out, in terms of the design
pub done_on : (job : Job) {checked : Checked} {first : ℕ} {state : List Bool} → job.checked ≡ checked → job.first ≡ first → job.start ≡ state → (until : Bool) (workers : ℕ) (before after : Carried) (now : SeenEngine) (answer : Result (Unit {0}) RunFault) (these : List (List Bool))
    → DoneBy until (HaveCarried workers (planned_of job) job.first job.start before after) (engine_of job) now answer these
    → DoneBy until (HaveCarried workers (planned_board checked.ordered checked.board checked.plan) first state before after) (record { netlist = checked.ordered.flat; clock = first; state = state }) now answer these
done_on job {checked = checked} {first = first} {state = state} same clock start until workers before after now answer these done =
    let some = worked_by until (engine_of job) these in
    let is : some ≡ worked until checked.ordered.flat state these = its_worked job same clock start these until in (
      subst (HaveCarried workers (planned_board checked.ordered checked.board checked.plan) first state before after) is (its_words job same clock start some workers before after done.0),
      by answer done.1,
    ) where
      some_rows : List (List Bool)
      some_rows = worked_by until (engine_of job) these

      by : (its : Result (Unit {0}) RunFault) → OnOk its (now ≡ engine_after (engine_of job) some_rows)
          → OnOk its (now ≡ engine_after (record { netlist = checked.ordered.flat; clock = first; state = state }) (worked until checked.ordered.flat state these))
      by (Ok ended) stands =
          its_end job same clock start some_rows now stands
          ∙ ap (engine_after (record { netlist = checked.ordered.flat; clock = first; state = state })) (its_worked job same clock start these until)
      by (Err why) stands = tt
