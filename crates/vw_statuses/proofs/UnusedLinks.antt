-- No link is used but by what runs a board with several workers.
use Rattle.std.proofs.Common.{◌≡◌, ℕ, Bool, false, List, [], length, Some, None, ltb, refl, ◌∙◌, ap, arith, if◌then◌else◌}
use Rattle.std.proofs.lemmas.Bool.{lt-ltb, ltb-false}
use Rattle.vw_net.specs.declared.ordered.Ordered.{Ordered}
use Rattle.vw_design.specs.Paths.{Word as ProbeWord}
use Rattle.vw_front.specs.Designs.{WatchedDesign}
use Rattle.vw_course.specs.Endings.{IsCallOf}
use Rattle.vw_course.proofs.UnusedLinks.{UsesNoLinks, links_stay, texts_unused}
use Rattle.vw_plan.specs.declared.board.Board.{Board}
use Rattle.vw_plan.specs.declared.plan.Plan.{Plan}
use Rattle.vw_prog.specs.declared.word.Word.{Word}
use Rattle.vw_batches.specs.Traffic.{scripts_of}
use Rattle.vw_gen.specs.Summary.{summary}
use Rattle.vw_courses.specs.Demo.{board_name, design_name, generated, stimulus_name}
use Rattle.vw_courses.specs.Messages.{vocabulary, Call, CallWork}
use Rattle.vw_courses.specs.Commands.{Scripts, no_links, IsSomeTrace, trace_course, rows_course, TextOver, TextFrom, over_design_course, replay_course, replayed_trace_of_until, replayed_wave_of_until, watched_words, ends_by, netlist_trace, Rest, size_rest, plan_rest, emit_rest, ready_course, report_course, over_rows_course, resume_rest, course_of, demo_run}
use Rattle.vw_courses.specs.MayPlan.{PlanBy, made_here, of_file, for_chips, by_file, by_chips}
use Rattle.vw_courses.specs.Words.{Spelled, uses_links}
use Rattle.vw_courses.specs.Words as words

-- one worker has no words for links
none_used : (workers : ℕ) → ltb 1 workers ≡ false → (text : ℕ → List Word) → scripts_of workers text ≡ None
none_used workers few text = ap (λ (one : Bool). if one then None else Some text) (lt-ltb workers 2 (omega (arith, ltb-false 1 workers few)))

-- a text over the rows of a stimulus
trace_unused : (stimulus : List ℕ) (width : ℕ) (trace : List (List Bool) → List ℕ) (scripts : Scripts) → ((rows : List (List Bool)) → scripts rows ≡ None)
    → (rows : List (List Bool)) → UsesNoLinks (trace_course stimulus width trace scripts rows)
trace_unused stimulus width trace scripts none rows = (none rows, some) where
  some : (did : CallWork) → IsSomeTrace width trace scripts did → did.scripts ≡ None
  some did (its, wide, is) = ap (λ (work : CallWork). work.scripts) is ∙ none its

rows_unused : (stimulus : List ℕ) (width : ℕ) (trace : List (List Bool) → List ℕ) (scripts : Scripts) → ((rows : List (List Bool)) → scripts rows ≡ None)
    → UsesNoLinks (rows_course stimulus width trace scripts)
rows_unused stimulus width trace scripts none = λ text rows good. trace_unused stimulus width trace scripts none rows

design_unused : (probes : List ProbeWord) (design stimulus : List ℕ) (text : TextOver WatchedDesign)
    → UsesNoLinks (over_design_course probes design stimulus text)
design_unused probes design stimulus text = λ d watched good. rows_unused stimulus _ (text watched) no_links (λ rows. refl)

-- so from a state on
replay_unused : (probes : List ProbeWord) (design state stimulus : List ℕ) (text : TextFrom WatchedDesign)
    → UsesNoLinks (replay_course probes design state stimulus text)
replay_unused probes design state stimulus text = λ d watched good t one is s rows fine done reached. trace_unused stimulus _ (text one watched) no_links (λ all. refl) rows

-- a planned board, whatever comes behind it
ready_unused : (probes : List ProbeWord) (design board : List ℕ) (by : PlanBy) (rest : Rest)
    → ((ordered : Ordered) (board : Board) (plan : Plan) → UsesNoLinks (rest ordered board plan))
    → UsesNoLinks (ready_course probes design board by rest)
ready_unused probes design board made_here rest own = λ d ordered good b its fine plan is. own ordered its plan
ready_unused probes design board (of_file name) rest own = λ d ordered good b its fine p plan is done sound. own ordered its plan
ready_unused probes design board (for_chips name) rest own = λ d ordered good b its fine c chips are plan is. own ordered its plan

over_rows_unused : (probes : List ProbeWord) (design board : List ℕ) (by : PlanBy) (stimulus : List ℕ) (text : TextOver Ordered) (until : Bool) (workers : ℕ) (unknown : Bool)
    → ltb 1 workers ≡ false
    → UsesNoLinks (over_rows_course probes design board by stimulus text until workers unknown)
over_rows_unused probes design board by stimulus text until workers unknown few =
    ready_unused probes design board by _ (λ ordered its plan. rows_unused stimulus ordered.flat.inputs (text ordered) _ (λ rows. none_used workers few _))

resume_unused : (until : Bool) (count : ℕ) (state stimulus : List ℕ) (workers : ℕ) → ltb 1 workers ≡ false → (ordered : Ordered) (board : Board) (plan : Plan)
    → UsesNoLinks (resume_rest until count state stimulus workers ordered board plan)
resume_unused until count state stimulus workers few ordered board plan =
    λ t its good s rows fine done fit. trace_unused stimulus ordered.flat.inputs _ _ (λ rows. none_used workers few _) rows

report_unused : (probes : List ProbeWord) (design board : List ℕ) (by : PlanBy) → UsesNoLinks (report_course probes design board by)
report_unused probes design board made_here = λ d named good b its fine plan is found real. refl
report_unused probes design board (of_file name) = λ d named good b its fine p plan is done sound found real. refl
report_unused probes design board (for_chips name) = λ d named good b its fine c chips are plan is found real. refl

course_unused : (spelled : Spelled) → uses_links spelled ≡ false → UsesNoLinks (course_of spelled)
course_unused (words.sim design stimulus unknown until probes) none = design_unused (watched_words until probes) design stimulus _
course_unused (words.wave design stimulus unknown until probes) none = design_unused (watched_words until probes) design stimulus _
course_unused (words.grade design stimulus workers unknown share) none = λ d named good. rows_unused stimulus _ _ no_links (λ rows. refl)
course_unused (words.replay design stimulus state until probes) none = replay_unused (watched_words until probes) design state stimulus (replayed_trace_of_until (ends_by until))
course_unused (words.replay_wave design stimulus state until probes) none = replay_unused (watched_words until probes) design state stimulus (replayed_wave_of_until (ends_by until) probes)
course_unused (words.nets design probes) none = λ d named good. refl
course_unused (words.check design board plan probes) none = ready_unused probes design board (of_file plan) size_rest (λ ordered its sound. refl)
course_unused (words.plan design board chips probes) none = ready_unused probes design board (by_chips chips) plan_rest (λ ordered its plan. refl)
course_unused (words.run design board stimulus given workers unknown until probes) none = over_rows_unused (watched_words until probes) design board (by_file given) stimulus _ (ends_by until) workers unknown none
course_unused (words.demo cells workers) none = texts_unused vocabulary (generated cells) (summary cells) (demo_run workers) (over_rows_unused [] design_name board_name made_here stimulus_name (netlist_trace 0 false) false workers false none)
course_unused (words.save design board stimulus given workers unknown every until) none = over_rows_unused (watched_words until []) design board (by_file given) stimulus _ (ends_by until) workers unknown none
course_unused (words.resume design board state stimulus given workers until probes) none =
    ready_unused (watched_words until probes) design board (by_file given) (resume_rest (ends_by until) (length probes) state stimulus workers)
    (resume_unused (ends_by until) (length probes) state stimulus workers none)
course_unused (words.report design board given probes) none = report_unused probes design board (by_file given)
course_unused (words.emit design board given) none = ready_unused [] design board (by_file given) emit_rest (λ ordered its plan done fits. refl)
course_unused words.help none = refl
course_unused words.version none = refl
course_unused (words.nothing place) none = tt

pub unused_links_stay : (spelled : Spelled) (call : Call) → uses_links spelled ≡ false → IsCallOf (course_of spelled) call
    → call.after.links ≡ call.before.links
unused_links_stay spelled call none is = links_stay vocabulary call.before call.after (course_of spelled) is.answer (course_unused spelled none) is.follows
