-- The headline of `run`, from its tables.
use Rattle.std.proofs.Common.{◌≡◌, ℕ, Bool, List, Option, length, ◌∙◌, ap, subst}
use Rattle.vw_design.specs.Paths.{Word}
use Rattle.vw_front.specs.Designs.{WatchedDesign}
use Rattle.vw_outside.specs.Writes.{appended}
use Rattle.vw_course.specs.Outside.{SeenOutside}
use Rattle.vw_course.specs.Endings.{IsCallOf}
use Rattle.vw_course.specs.Statuses.{IsDone, Holds}
use Rattle.vw_courses.specs.Messages.{vocabulary, Call, CallWork}
use Rattle.vw_courses.specs.Commands.{Scripts, TextOver, ends_by, trace_of_until, netlist_trace_until, run_course, course_of, watched_words}
use Rattle.vw_courses.specs.MayPlan.{PlanBy, by_file}
use Rattle.vw_courses.specs.Words.{Spelled, spelled_by}
use Rattle.vw_courses.proofs.TextsOfDesigns.{traces_until_agree}
use Rattle.vw_statuses.specs.TracedStatuses.{designs, IsTrace}
use Rattle.vw_statuses.specs.Headline.{Headline, WritesOver, WritesTrace}
use Rattle.vw_statuses.proofs.RunLaws.{run_traced}

pub writes_over : (probes : List Word) (text : TextOver WatchedDesign) (design : List ℕ) (d s : List ℕ) (Uses : Scripts → Type 0) (call : Call)
    → IsDone (IsTrace (designs probes design) text d s Uses) call
    → WritesOver probes text d s call.before.out call.after.out
writes_over probes text design d s Uses call done = record {
  spelled = done.is.its;
  rows = done.is.rows;
  design_is = done.is.are.spells;
  rows_are = done.is.are.rows_are;
  wrote = ap (λ (o : SeenOutside vocabulary.Word). o.out) done.leaves ∙ ap (λ (w : CallWork). appended call.before.out w.text) done.is.is;
}

module _ (probes : List Word) (until : Option Word) (design board : List ℕ) (by : PlanBy) (stimulus : List ℕ) (workers : ℕ) (unknown : Bool) (call : Call) where
  pub headline : IsCallOf (run_course probes until design board by stimulus workers unknown) call
      → (d s : List ℕ) → Holds call design d → Holds call stimulus s → call.status ≡ 0 → WritesTrace probes until unknown d s call.before.out call.after.out
  headline is d s design_held stimulus_held status =
      let watched : List Word = watched_words until probes in
      let text : TextOver WatchedDesign = trace_of_until (ends_by until) unknown in
      let traced = run_traced watched text (netlist_trace_until (ends_by until) (length probes) unknown) (traces_until_agree until probes unknown) design board by stimulus (ends_by until) workers unknown call is in
      writes_over watched text design d s _ call (traced.ends.done (d, s) (record { its_held = design_held; stimulus_held = stimulus_held }) status)

-- so a call has it whose words spell a run
pub headline_of : (words : List (List ℕ)) (call : Call) → IsCallOf (course_of (spelled_by words)) call
    → Headline words call.before.shelf.told call.before.out call.after.out call.status
headline_of words call is design board stimulus given workers unknown until probes spelled d s =
    headline probes until design board (by_file given) stimulus workers unknown call (subst (λ (one : Spelled). IsCallOf (course_of one) call) spelled is) d s
