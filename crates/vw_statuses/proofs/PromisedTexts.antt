-- What each command has written where it ends with status 0, from its table.
use Rattle.std.proofs.Common.{◌≡◌, ◌∙◌, ℕ, Bool, List, [], length, ap}
use Rattle.vw_net.specs.declared.ordered.Ordered.{Ordered}
use Rattle.vw_design.specs.Paths.{Word}
use Rattle.vw_outside.specs.Writes.{appended}
use Rattle.vw_course.specs.Outside.{SeenOutside}
use Rattle.vw_course.specs.Course.{writes}
use Rattle.vw_course.specs.Endings.{IsCallOf}
use Rattle.vw_course.specs.Statuses.{IsDone}
use Rattle.vw_course.proofs.CallTable.{call_table}
use Rattle.vw_front.specs.Designs.{WatchedDesign}
use Rattle.vw_plan.specs.declared.board.Board.{Board}
use Rattle.vw_plan.specs.declared.plan.Plan.{Plan}
use Rattle.vw_courses.specs.Messages.{vocabulary, Call, CallWork}
use Rattle.vw_courses.specs.Commands.{TextFrom, TextOver, course_of, ends_by, netlist_counted, netlist_state, over_counted, plan_rest, replay_course, replayed_trace_of_until, replayed_wave_of_until, saved_of, size_rest, texts_kept, trace_of_until, usage_course, watched_words, wave_of_until}
use Rattle.vw_courses.specs.MayPlan.{PlanBy, made_here, of_file, for_chips, by_file, by_chips}
use Rattle.vw_courses.specs.Words.{Spelled}
use Rattle.vw_courses.specs.Words as words
use Rattle.vw_courses.proofs.TextsOfDesigns.{saves_until_agree}
use Rattle.vw_statuses.specs.EmittedBoards.{BoardsShow}
use Rattle.vw_statuses.specs.PlannedStatuses.{PlanTexts, HoldTexts}
use Rattle.vw_statuses.specs.Promises.{AreHeld, Promise, PromisesReplay, WritesPlanned}
use Rattle.vw_statuses.specs.WrittenStatuses.{AlwaysFits, IsWritten, plan_text, size_text}
use Rattle.vw_statuses.proofs.DemoLaws.{demo_table}
use Rattle.vw_statuses.proofs.EmitLaws.{emit_table}
use Rattle.vw_statuses.proofs.HeadlineLaw.{headline, writes_over}
use Rattle.vw_statuses.proofs.NetsLaws.{nets_table}
use Rattle.vw_statuses.proofs.ReplayLaws.{replay_traced}
use Rattle.vw_statuses.proofs.ReportLaws.{report_ends}
use Rattle.vw_statuses.proofs.ResumeLaws.{resume_traced}
use Rattle.vw_statuses.proofs.RunLaws.{run_traced}
use Rattle.vw_statuses.proofs.SimLaws.{grade_table, sim_table}
use Rattle.vw_statuses.proofs.WrittenLaws.{plain_writer, written_ends}

-- what out has after work that was done
wrote : (What : CallWork → Type 0) (call : Call) (done : IsDone What call) (text : List ℕ) → done.did.text ≡ text
    → call.after.out ≡ appended call.before.out text
wrote What call done text is = ap (λ (o : SeenOutside vocabulary.Word). o.out) done.leaves ∙ ap (appended call.before.out) is

-- a text of a planned board
planned : (probes : List Word) (by : PlanBy) (text : Ordered → Board → Plan → List ℕ) (texts : PlanTexts) (call : Call)
    → IsDone (IsWritten probes by text AlwaysFits texts) call → WritesPlanned probes by text texts call.before.out call.after.out
planned probes by text texts call done = record {
  ordered = done.is.ordered;
  board = done.is.its_board;
  plan = done.is.plan;
  are = done.is.are;
  wrote = wrote (IsWritten probes by text AlwaysFits texts) call done (text done.is.ordered done.is.its_board done.is.plan) (ap (λ (w : CallWork). w.text) done.is.is);
}

hold_texts : (probes : List Word) (design board : List ℕ) (by : PlanBy) (call : Call) (texts : PlanTexts)
    → AreHeld call.before.shelf.told design board by texts → HoldTexts probes design board by call texts
hold_texts probes design board made_here call texts are = record { design_held = are.0; board_held = are.1; plan_held = tt }
hold_texts probes design board (of_file plan) call texts are = record { design_held = are.0; board_held = are.1; plan_held = are.2 }
hold_texts probes design board (for_chips chips) call texts are = record { design_held = are.0; board_held = are.1; plan_held = are.2 }

-- a text that is always the same
constant : (text : List ℕ) (call : Call) → IsCallOf (writes {V = vocabulary} text) call → call.status ≡ 0 → call.after.out ≡ appended call.before.out text
constant text call is status =
    let done = (call_table (writes {V = vocabulary} text) call is).done status in
    ap (λ (o : SeenOutside vocabulary.Word). o.out) done.leaves ∙ ap (λ (w : CallWork). appended call.before.out w.text) done.is

-- a text of a design from a state on
replayed : (probes : List Word) (text : TextFrom WatchedDesign) (design state stimulus : List ℕ) (call : Call) → IsCallOf (replay_course probes design state stimulus text) call → call.status ≡ 0
    → PromisesReplay probes text design state stimulus call.before.shelf.told call.before.out call.after.out
replayed probes text design state stimulus call is status d t s design_held state_held stimulus_held =
    let done = (replay_traced probes text design state stimulus call is).ends.done (record { design = d; state = t }, s) (record { its_held = (design_held, state_held); stimulus_held = stimulus_held }) status in
    record {
      its = done.is.its;
      rows = done.is.rows;
      are = done.is.are.spells;
      rows_are = done.is.are.rows_are;
      wrote = ap (λ (o : SeenOutside vocabulary.Word). o.out) done.leaves ∙ ap (λ (w : CallWork). appended call.before.out w.text) done.is.is;
    }

pub promised : BoardsShow → (spelled : Spelled) (call : Call) → IsCallOf (course_of spelled) call → call.status ≡ 0
    → Promise spelled call.before.shelf.told call.before.out call.after.out
promised show (words.sim design stimulus unknown until probes) call is status = λ d s design_held stimulus_held.
    writes_over (watched_words until probes) (trace_of_until (ends_by until) unknown) design d s _ call
    ((sim_table (watched_words until probes) (trace_of_until (ends_by until) unknown) design stimulus call is).traced.ends.done (d, s) (record { its_held = design_held; stimulus_held = stimulus_held }) status)
promised show (words.wave design stimulus unknown until probes) call is status = λ d s design_held stimulus_held.
    writes_over (watched_words until probes) (wave_of_until (ends_by until) probes unknown) design d s _ call
    ((sim_table (watched_words until probes) (wave_of_until (ends_by until) probes unknown) design stimulus call is).traced.ends.done (d, s) (record { its_held = design_held; stimulus_held = stimulus_held }) status)
promised show (words.grade design stimulus workers unknown share) call is status = λ d s design_held stimulus_held.
    let done = (grade_table share unknown design stimulus call is).traced.ends.done (d, s) (record { its_held = design_held; stimulus_held = stimulus_held }) status in
    record {
      named = done.is.its;
      rows = done.is.rows;
      netlist_is = done.is.are.spells;
      rows_are = done.is.are.rows_are;
      wrote = ap (λ (o : SeenOutside vocabulary.Word). o.out) done.leaves ∙ ap (λ (w : CallWork). appended call.before.out w.text) done.is.is;
    }
promised show (words.replay design stimulus state until probes) call is status =
    replayed (watched_words until probes) (replayed_trace_of_until (ends_by until)) design state stimulus call is status
promised show (words.replay_wave design stimulus state until probes) call is status =
    replayed (watched_words until probes) (replayed_wave_of_until (ends_by until) probes) design state stimulus call is status
promised show (words.nets design probes) call is status = λ d design_held.
    let done = (nets_table probes design call is).ends.done d design_held status in
    record {
      named = done.is.0;
      netlist_is = done.is.1;
      wrote = ap (λ (o : SeenOutside vocabulary.Word). o.out) done.leaves ∙ ap (λ (w : CallWork). appended call.before.out w.text) done.is.2;
    }
promised show (words.check design board plan probes) call is status = λ texts are.
    planned probes (of_file plan) size_text texts call
    ((written_ends probes design board (of_file plan) size_text AlwaysFits [] size_rest (plain_writer size_text) (λ number one. tt) call is).done texts (hold_texts probes design board (of_file plan) call texts are) status)
promised show (words.plan design board chips probes) call is status = λ texts are.
    planned probes (by_chips chips) plan_text texts call
    ((written_ends probes design board (by_chips chips) plan_text AlwaysFits [] plan_rest (plain_writer plan_text) (λ number one. tt) call is).done texts (hold_texts probes design board (by_chips chips) call texts are) status)
promised show (words.run design board stimulus given workers unknown until probes) call is status = λ d s design_held stimulus_held.
    headline probes until design board (by_file given) stimulus workers unknown call is d s design_held stimulus_held status
promised show (words.demo cells workers) call is status = (demo_table cells workers call is).done status
promised show (words.save design board stimulus given workers unknown every until) call is status = λ d s design_held stimulus_held.
    let watched : List Word = watched_words until [] in
    let ends : Bool = ends_by until in
    let text : TextOver WatchedDesign = over_counted ends unknown (texts_kept every (saved_of unknown)) in
    let traced = run_traced watched text (netlist_counted ends unknown (texts_kept every (netlist_state unknown))) (saves_until_agree ends every watched unknown) design board (by_file given) stimulus ends workers unknown call is in
    writes_over watched text design d s _ call (traced.ends.done (d, s) (record { its_held = design_held; stimulus_held = stimulus_held }) status)
promised show (words.resume design board state stimulus given workers until probes) call is status = λ d t s design_held state_held stimulus_held.
    let done = (resume_traced (watched_words until probes) (length probes) design board (by_file given) state stimulus (ends_by until) workers call is).ends.done (record { design = d; state = t }, s) (record { its_held = (design_held, state_held); stimulus_held = stimulus_held }) status in
    record {
      its = done.is.its;
      rows = done.is.rows;
      are = done.is.are.spells;
      rows_are = done.is.are.rows_are;
      wrote = ap (λ (o : SeenOutside vocabulary.Word). o.out) done.leaves ∙ ap (λ (w : CallWork). appended call.before.out w.text) done.is.is;
    }
promised show (words.report design board given probes) call is status = λ texts are.
    let done = (report_ends probes design board (by_file given) call is).done texts (hold_texts probes design board (by_file given) call texts are) status in
    record {
      text = done.is.text;
      reports = done.is.reports;
      wrote = ap (λ (o : SeenOutside vocabulary.Word). o.out) done.leaves ∙ ap (λ (w : CallWork). appended call.before.out w.text) done.is.is;
    }
promised show (words.emit design board given) call is status = λ texts are.
    (emit_table design board (by_file given) call show is).acts texts (hold_texts [] design board (by_file given) call texts are) status
promised show words.help call is status = constant _ call is status
promised show words.version call is status = constant _ call is status
promised show (words.nothing place) call is status = absurd ((call_table (usage_course place) call is).done status).is
