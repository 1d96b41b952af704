-- The course of each command.
use Rattle.std.specs.Prelude.{◌≡◌, ◌++◌, ℕ, Bool, true, false, List, [], ◌∷◌, drop, length, take, codes, Option, Some, None}
use Rattle.std.specs.List.{All}
use Rattle.std.specs.Fmt.{decimal}
use Rattle.vw_net.specs.declared.flat.Flat.{Flat}
use Rattle.vw_net.specs.declared.ordered.Ordered.{Ordered}
use Rattle.vw_net.specs.Cells.{latch_count, start_values}
use Rattle.vw_net.specs.History.{History}
use Rattle.vw_design.specs.Paths.{Word as ProbeWord}
use Rattle.vw_design.specs.Preorder.{latches}
use Rattle.vw_design.specs.NetReads.{root_outputs}
use Rattle.vw_design.specs.Clocks.{columns}
use Rattle.vw_design.specs.PathHistory.{path_history, path_history_from, path_outputs_from, path_start}
use Rattle.vw_front.specs.Designs.{WatchedDesign}
use Rattle.vw_front.specs.Names.{signal_names}
use Rattle.vw_front.specs.declared.named.NamedNetlist.{NamedNetlist}
use Rattle.vw_fault.specs.Shares.{share_text}
use Rattle.vw_fault.specs.Text.{grading_text}
use Rattle.vw_listing.specs.Netlist.{netlist_text}
use Rattle.vw_course.specs.Course.{again, Course, works, refuses, writes, Judged, judges, made, stage}
use Rattle.vw_course.specs.OnTexts.{on_texts}
use Rattle.vw_plan.specs.declared.board.Board.{Board}
use Rattle.vw_plan.specs.declared.plan.Plan.{Plan}
use Rattle.vw_plan.specs.PlannedBoard.{PlannedBoard, planned_board}
use Rattle.vw_plan.specs.HopCounts.{hop_count}
use Rattle.vw_plantext.specs.Content.{content_of}
use Rattle.vw_plantext.specs.Grammar.{spelling}
use Rattle.vw_prog.specs.declared.word.Word.{Word}
use Rattle.vw_emit_text.specs.Emitted.{emitted_text}
use Rattle.vw_report.specs.Report.{report_of}
use Rattle.vw_resume.specs.declared.state.State.{State}
use Rattle.vw_resume.specs.States.{state_text}
use Rattle.vw_resume.specs.Resumed.{replayed_trace_until, replayed_wave_until}
use Rattle.vw_resume.specs.Saved.{counted_from_start, kept_texts, saved_text}
use Rattle.vw_rows.specs.Trace.{trace_text, trace_text_from}
use Rattle.vw_batches.specs.Traffic.{scripts_of, words_from}
use Rattle.vw_trace.specs.FlatTrace.{flat_trace_until, trace_until}
use Rattle.vw_trace.specs.Triggers.{clocks_until, shown, shown_count, worked}
use Rattle.vw_vcd.specs.Lines.{wave_text, wave_text_from}
use Rattle.vw_wave.specs.FlatWave.{flat_wave_until, signal_rows}
use Rattle.vw_courses.specs.declared.vocabulary.File.TheVariants as files
use Rattle.vw_courses.specs.declared.vocabulary.Reason.TheVariants.{Usage}
use Rattle.vw_courses.specs.Words.{Spelled}
use Rattle.vw_courses.specs.Words as words
use Rattle.vw_courses.specs.Help.{help_text, version_text}
use Rattle.vw_courses.specs.Demo.{board_name, design_name, generated, stimulus_name}
use Rattle.vw_gen.specs.Summary.{summary}
use Rattle.vw_courses.specs.Messages.{vocabulary, CallWork}
use Rattle.vw_courses.specs.MayPlan.{PlanBy, made_here, of_file, for_chips, by_file, by_chips}
use Rattle.vw_courses.specs.Kinds.{design_kind, netlist_kind, named_kind, rows_kind, IsBadAgain, board_kind, plan_kind, chips_kind, soundness, planning, planning_for, reporting, emission, state_kind, clocks_fit, clocks_reach}

-- ---- what ends a run before its stimulus

-- the words of the nets that are watched: the probes, and behind them the trigger, where there is one
abbrev pub watched_words : Option ProbeWord → List ProbeWord → List ProbeWord
watched_words None probes = probes
watched_words (Some net) probes = probes ++ net ∷ []

-- whether there is a trigger; where there is none, the first argument of what stands here is `false`
abbrev pub ends_by : Option ProbeWord → Bool
ends_by None = false
ends_by (Some net) = true

-- of some rows those of the clocks that count, from these latch values on: all, or those up to the first clock in which the last
-- watched net is 1, and with it
abbrev pub counted_in : Bool → WatchedDesign → List Bool → List (List Bool) → List (List Bool)
counted_in false watched state rows = rows
counted_in true watched state rows = take (clocks_until (path_outputs_from watched.design watched.nets state rows)) rows

-- what is shown of a design over these rows: the trigger isn't
abbrev pub shown_of : Bool → WatchedDesign → List Bool → List (List Bool) → History
shown_of until watched state rows = shown until (path_history_from watched.design watched.nets state (counted_in until watched state rows))

-- ---- traces

-- the trace of a design with watched nets over rows, where free latches start at `unknown`
abbrev pub trace_of_until : Bool → Bool → WatchedDesign → List (List Bool) → List ℕ
trace_of_until until unknown watched rows =
    trace_text (length (root_outputs watched.design)) (shown_count until (length watched.nets)) (length (latches watched.design))
    (shown_of until watched (path_start unknown watched.design) rows)

-- over all rows
abbrev pub trace_of : Bool → WatchedDesign → List (List Bool) → List ℕ
trace_of = trace_of_until false

-- the words that each link carries for such rows, where links are used; and no links
abbrev pub Scripts : Type 0
Scripts = List (List Bool) → Option (ℕ → List Word)

abbrev pub no_links : Scripts
no_links rows = None

-- a trace is written, and links carry their words meanwhile
abbrev pub tracing : (List (List Bool) → List ℕ) → Scripts → List (List Bool) → CallWork
tracing trace scripts rows = record { text = trace rows; scripts = scripts rows }

-- so over some rows of this width
abbrev pub IsSomeTrace : ℕ → (List (List Bool) → List ℕ) → Scripts → CallWork → Type 0
IsSomeTrace width trace scripts did =
    (rows : List (List Bool)) × All (λ row. length row ≡ width) rows × (did ≡ tracing trace scripts rows)

-- the trace over the rows of the stimulus is written, while it is read again
abbrev pub trace_course : List ℕ → ℕ → (List (List Bool) → List ℕ) → Scripts → List (List Bool) → Course vocabulary
trace_course stimulus width trace scripts rows =
    works (again files.Stimulus stimulus IsBadAgain (IsSomeTrace width trace scripts)) (tracing trace scripts rows)

-- what the rows of a stimulus have to be, once they are known, before a text of them is written: anything, or what is judged
-- so
pub data RowCheck : Type 1 where
  no_check : RowCheck
  check_by : (List (List Bool) → Judged vocabulary (Unit {0}) 11) → RowCheck

abbrev pub with_check : RowCheck → (List (List Bool) → Course vocabulary) → List (List Bool) → Course vocabulary
with_check no_check next = next
with_check (check_by judged) next = λ rows. judges (judged rows) (λ done. next rows)

-- the stimulus is read before, which has rows of this width
abbrev pub checked_rows_course : List ℕ → ℕ → RowCheck → (List (List Bool) → List ℕ) → Scripts → Course vocabulary
checked_rows_course stimulus width check trace scripts =
    stage (rows_kind width) stimulus (with_check check (trace_course stimulus width trace scripts))

abbrev pub rows_course : List ℕ → ℕ → (List (List Bool) → List ℕ) → Scripts → Course vocabulary
rows_course stimulus width trace scripts = checked_rows_course stimulus width no_check trace scripts

-- a text of each thing that is run over rows
abbrev pub TextOver : Type 0 → Type 0
TextOver Thing = Thing → List (List Bool) → List ℕ

-- so for a design, and for a netlist
abbrev pub design_course : List ℕ → TextOver WatchedDesign → Scripts → WatchedDesign → Course vocabulary
design_course stimulus text scripts watched =
    rows_course stimulus (length (columns watched.design)) (text watched) scripts

abbrev pub netlist_course : List ℕ → TextOver Ordered → Scripts → Ordered → Course vocabulary
netlist_course stimulus text scripts ordered = rows_course stimulus ordered.flat.inputs (text ordered) scripts

-- the trace of a netlist of which so many last outputs are probes, and the one behind them the trigger
abbrev pub netlist_trace_until : Bool → ℕ → Bool → TextOver Ordered
netlist_trace_until until count unknown ordered = flat_trace_until until count unknown ordered.flat

abbrev pub netlist_trace : ℕ → Bool → TextOver Ordered
netlist_trace = netlist_trace_until false

-- ---- sim

-- the design first, with its probes, and no links are used
abbrev pub over_design_course : List ProbeWord → List ℕ → List ℕ → TextOver WatchedDesign → Course vocabulary
over_design_course probes design stimulus text = stage (design_kind probes) design (design_course stimulus text no_links)

abbrev pub sim_course : List ProbeWord → Option ProbeWord → List ℕ → List ℕ → Bool → Course vocabulary
sim_course probes until design stimulus unknown =
    over_design_course (watched_words until probes) design stimulus (trace_of_until (ends_by until) unknown)

-- ---- wave

-- the wave of a design with watched nets over rows, with the names of its signals, where free latches start at `unknown`
abbrev pub wave_of_until : Bool → List ProbeWord → Bool → TextOver WatchedDesign
wave_of_until until probes unknown watched rows =
    wave_text (signal_names probes watched.design) (signal_rows (shown_of until watched (path_start unknown watched.design) rows))

-- over all rows
abbrev pub wave_of : List ProbeWord → Bool → TextOver WatchedDesign
wave_of = wave_of_until false

-- the same of a netlist whose signals have these names
abbrev pub netlist_wave_until : Bool → List ProbeWord → Bool → TextOver Ordered
netlist_wave_until until names unknown ordered = flat_wave_until until names unknown ordered.flat

abbrev pub netlist_wave : List ProbeWord → Bool → TextOver Ordered
netlist_wave = netlist_wave_until false

abbrev pub wave_course : List ProbeWord → Option ProbeWord → List ℕ → List ℕ → Bool → Course vocabulary
wave_course probes until design stimulus unknown =
    over_design_course (watched_words until probes) design stimulus (wave_of_until (ends_by until) probes unknown)

-- ---- replays

-- a text of each thing from each state on
abbrev pub TextFrom : Type 0 → Type 0
TextFrom Thing = State → TextOver Thing

-- what is shown of a design from a state on, over the rows from the state's clock on
abbrev pub replayed_history : Bool → State → WatchedDesign → List (List Bool) → History
replayed_history until from watched rows = shown_of until watched from.latches (drop from.clock rows)

-- its trace, whose first clock is the state's
abbrev pub replayed_trace_of_until : Bool → TextFrom WatchedDesign
replayed_trace_of_until until from watched rows =
    trace_text_from from.clock (length (root_outputs watched.design)) (shown_count until (length watched.nets)) (length (latches watched.design))
    (replayed_history until from watched rows)

-- over all these rows
abbrev pub replayed_trace_of : TextFrom WatchedDesign
replayed_trace_of = replayed_trace_of_until false

-- its wave, whose first clock is the state's
abbrev pub replayed_wave_of_until : Bool → List ProbeWord → TextFrom WatchedDesign
replayed_wave_of_until until probes from watched rows =
    wave_text_from from.clock (signal_names probes watched.design) (signal_rows (replayed_history until from watched rows))

-- over all these rows
abbrev pub replayed_wave_of : List ProbeWord → TextFrom WatchedDesign
replayed_wave_of = replayed_wave_of_until false

-- the same of a netlist, of which so many last outputs are probes, or whose signals have these names
abbrev pub netlist_replay_until : Bool → ℕ → Flat → State → List (List Bool) → List ℕ
netlist_replay_until until count flat from = replayed_trace_until until count flat from.clock from.latches

abbrev pub netlist_replay : ℕ → Flat → State → List (List Bool) → List ℕ
netlist_replay = netlist_replay_until false

abbrev pub netlist_replayed_wave_until : Bool → List ProbeWord → Flat → State → List (List Bool) → List ℕ
netlist_replayed_wave_until until names flat from = replayed_wave_until until names flat from.clock from.latches

abbrev pub netlist_replayed_wave : List ProbeWord → Flat → State → List (List Bool) → List ℕ
netlist_replayed_wave = netlist_replayed_wave_until false

-- the stimulus has to reach the state's clock; no links are used
abbrev pub reached_course : List ℕ → ℕ → (State → List (List Bool) → List ℕ) → State → Course vocabulary
reached_course stimulus width text from = checked_rows_course stimulus width (check_by (clocks_reach from.clock)) (text from) no_links

-- the state, with so many latches, is read before
abbrev pub replay_rest : ℕ → ℕ → List ℕ → List ℕ → (State → List (List Bool) → List ℕ) → Course vocabulary
replay_rest count width state stimulus text = stage (state_kind count) state (reached_course stimulus width text)

-- of a design with its text
abbrev pub design_replay : List ℕ → List ℕ → TextFrom WatchedDesign → WatchedDesign → Course vocabulary
design_replay state stimulus text watched =
    replay_rest (length (latches watched.design)) (length (columns watched.design)) state stimulus (λ from. text from watched)

-- the design first
abbrev pub replay_course : List ProbeWord → List ℕ → List ℕ → List ℕ → TextFrom WatchedDesign → Course vocabulary
replay_course probes design state stimulus text = stage (design_kind probes) design (design_replay state stimulus text)

-- ---- grade

-- the grading of a netlist whose nets are printed so: of all its faults, or of a share of them, by its number and how many there are
abbrev pub graded_text : Option (ℕ × ℕ) → List ProbeWord → Flat → List Bool → List (List Bool) → List ℕ
graded_text None names flat start rows = grading_text names flat start rows
graded_text (Some share) names flat start rows = share_text share.0 share.1 names flat start rows

-- the same over rows, where free latches start at `unknown`
abbrev pub flat_grading : Option (ℕ × ℕ) → List ProbeWord → Bool → Flat → List (List Bool) → List ℕ
flat_grading share names unknown flat rows = graded_text share names flat (start_values unknown flat.cells) rows

-- that of the netlist of a design, with its names. It knows nothing of workers
abbrev pub grading_of : Option (ℕ × ℕ) → Bool → TextOver NamedNetlist
grading_of share unknown named = flat_grading share named.nets unknown named.ordered.flat

-- it is written over the rows of the stimulus
abbrev pub grading_course : Option (ℕ × ℕ) → List ℕ → Bool → NamedNetlist → Course vocabulary
grading_course share stimulus unknown named = rows_course stimulus named.ordered.flat.inputs (grading_of share unknown named) no_links

-- the design first; no net is watched
abbrev pub grade_course : Option (ℕ × ℕ) → List ℕ → List ℕ → Bool → Course vocabulary
grade_course share design stimulus unknown = stage (named_kind []) design (grading_course share stimulus unknown)

-- ---- nets

-- the netlist of a design as a text, with its names, where the probes are its last outputs
abbrev pub nets_text : List ProbeWord → NamedNetlist → List ℕ
nets_text probes named = netlist_text named.nets (named.outputs ++ probes) named.ordered.flat

-- it is written, whatever the order of the gates
abbrev pub nets_writing : List ProbeWord → NamedNetlist → Course vocabulary
nets_writing probes named = writes (nets_text probes named)

abbrev pub nets_course : List ProbeWord → List ℕ → Course vocabulary
nets_course probes design = stage (named_kind probes) design (nets_writing probes)

-- ---- what comes behind a planned board

abbrev pub Rest : Type 1
Rest = Ordered → Board → Plan → Course vocabulary

-- a plan that is given is judged
abbrev pub sound_then : Ordered → Board → (Plan → Course vocabulary) → Plan → Course vocabulary
sound_then ordered board next plan = judges (soundness (planned_board ordered board plan)) (λ done. next plan)

-- a plan is made for chips that are given
abbrev pub placed_then : Ordered → Board → (Plan → Course vocabulary) → List ℕ → Course vocabulary
placed_then ordered board next chips = made (planning_for ordered board chips) next

-- it goes on by a plan that it makes, which is good; or it reads the one that is given, and judges it; or it reads chips, and
-- makes one for them
abbrev pub plan_then : PlanBy → Ordered → Board → (Plan → Course vocabulary) → Course vocabulary
plan_then made_here ordered board next = made (planning ordered board) next
plan_then (of_file plan) ordered board next = stage plan_kind plan (sound_then ordered board next)
plan_then (for_chips chips) ordered board next = stage chips_kind chips (placed_then ordered board next)

-- the board before it
abbrev pub on_board_course : List ℕ → PlanBy → Rest → Ordered → Course vocabulary
on_board_course board by rest ordered = stage board_kind board (λ on. plan_then by ordered on (rest ordered on))

-- the design first
abbrev pub ready_course : List ProbeWord → List ℕ → List ℕ → PlanBy → Rest → Course vocabulary
ready_course probes design board by rest = stage (netlist_kind probes) design (on_board_course board by rest)

-- ---- check

-- what is written of a sound plan: its wires, its hops, and its period
abbrev pub sound_text : Plan → List ℕ
sound_text plan =
    codes "sound " ++ (decimal (length plan.wires)
    ++ (32 ∷ decimal (hop_count plan.wires) ++ (32 ∷ decimal plan.period ++ 10 ∷ [])))

abbrev pub size_rest : Rest
size_rest ordered board plan = writes (sound_text plan)

abbrev pub check_course : List ProbeWord → List ℕ → List ℕ → List ℕ → Course vocabulary
check_course probes design board plan = ready_course probes design board (of_file plan) size_rest

-- ---- plan

-- the text of a plan
abbrev pub text_of_plan : Plan → List ℕ
text_of_plan plan = spelling (content_of plan)

abbrev pub plan_rest : Rest
plan_rest ordered board plan = writes (text_of_plan plan)

abbrev pub plan_course : List ProbeWord → List ℕ → List ℕ → PlanBy → Course vocabulary
plan_course probes design board by = ready_course probes design board by plan_rest

-- ---- report

-- what is found out of a plan is written, with these names of the nets
abbrev pub report_rest : List ProbeWord → Rest
report_rest names ordered board plan =
    made (reporting (planned_board ordered board plan)) (λ found. writes (report_of (planned_board ordered board plan) names found))

-- the design first, with its names
abbrev pub report_course : List ProbeWord → List ℕ → List ℕ → PlanBy → Course vocabulary
report_course probes design board by =
    stage (named_kind probes) design (λ named. on_board_course board by (report_rest named.nets) named.ordered)

-- ---- emit

-- the planned board is written as a design, where this is within the limits of designs
abbrev pub emit_rest : Rest
emit_rest ordered board plan =
    judges (emission (planned_board ordered board plan)) (λ done. writes (emitted_text (planned_board ordered board plan)))

abbrev pub emit_course : List ℕ → List ℕ → PlanBy → Course vocabulary
emit_course design board by = ready_course [] design board by emit_rest

-- ---- run

-- the words that the links of a planned board carry from a clock and latch values on, where the last output may be a trigger:
-- none with one worker, which uses no link
abbrev pub scripts_from : Bool → ℕ → PlannedBoard → ℕ → List Bool → Scripts
scripts_from until workers planned first state rows =
    scripts_of workers (λ link. words_from planned link first state (worked until planned.ordered.flat state rows))

-- the same from the beginning
abbrev pub board_scripts : Bool → ℕ → Bool → PlannedBoard → Scripts
board_scripts until workers unknown planned = scripts_from until workers planned 0 (start_values unknown planned.ordered.flat.cells)

-- a planned board runs: what is written is a text of its netlist, which knows no plan
abbrev pub board_course : List ℕ → TextOver Ordered → Bool → ℕ → Bool → Rest
board_course stimulus text until workers unknown ordered board plan =
    netlist_course stimulus text (board_scripts until workers unknown (planned_board ordered board plan)) ordered

-- such a board is made ready before
abbrev pub over_rows_course : List ProbeWord → List ℕ → List ℕ → PlanBy → List ℕ → TextOver Ordered → Bool → ℕ → Bool → Course vocabulary
over_rows_course probes design board by stimulus text until workers unknown =
    ready_course probes design board by (board_course stimulus text until workers unknown)

abbrev pub run_course : List ProbeWord → Option ProbeWord → List ℕ → List ℕ → PlanBy → List ℕ → ℕ → Bool → Course vocabulary
run_course probes until design board by stimulus workers unknown =
    over_rows_course (watched_words until probes) design board by stimulus (netlist_trace_until (ends_by until) (length probes) unknown)
    (ends_by until) workers unknown

-- ---- save

-- the state after the rows, from the start values on, where free latches start at `unknown`
abbrev pub saved_of : Bool → TextOver WatchedDesign
saved_of unknown watched rows = state_text (length rows) (path_history watched.design watched.nets unknown rows).last

-- the same of a netlist
abbrev pub netlist_state : Bool → TextOver Ordered
netlist_state unknown ordered = saved_text unknown ordered.flat

-- the text of all rows alone; or one behind each so many clocks, each that of the rows before it, and one at the end
abbrev pub texts_kept : {Thing : Type 0} → Option ℕ → TextOver Thing → TextOver Thing
texts_kept None text = text
texts_kept (Some every) text = λ its rows. kept_texts every (text its) rows

-- a text of the rows that count, from the start values on
abbrev pub over_counted : Bool → Bool → TextOver WatchedDesign → TextOver WatchedDesign
over_counted until unknown text watched rows = text watched (counted_in until watched (path_start unknown watched.design) rows)

abbrev pub netlist_counted : Bool → Bool → TextOver Ordered → TextOver Ordered
netlist_counted until unknown text ordered rows = text ordered (counted_from_start until unknown ordered.flat rows)

abbrev pub save_course : Option ProbeWord → List ℕ → List ℕ → PlanBy → List ℕ → ℕ → Bool → Option ℕ → Course vocabulary
save_course until design board by stimulus workers unknown every =
    over_rows_course (watched_words until []) design board by stimulus
    (netlist_counted (ends_by until) unknown (texts_kept every (netlist_state unknown))) (ends_by until) workers unknown

-- ---- resume

-- a planned board goes on from a state, where the clocks of the state and of the rows aren't too many together
-- the last so many outputs of its netlist are probes, and the one behind them may be a trigger
abbrev pub state_course : Bool → ℕ → List ℕ → ℕ → PlannedBoard → State → Course vocabulary
state_course until count stimulus workers planned state =
    checked_rows_course stimulus planned.ordered.flat.inputs (check_by (clocks_fit state.clock))
    (trace_until until count state.clock state.latches planned.ordered.flat) (scripts_from until workers planned state.clock state.latches)

-- the state of the design is read before
abbrev pub resume_rest : Bool → ℕ → List ℕ → List ℕ → ℕ → Rest
resume_rest until count state stimulus workers ordered board plan =
    stage (state_kind (latch_count ordered.flat.cells)) state (state_course until count stimulus workers (planned_board ordered board plan))

abbrev pub resume_course : List ProbeWord → Option ProbeWord → List ℕ → List ℕ → PlanBy → List ℕ → List ℕ → ℕ → Course vocabulary
resume_course probes until design board by state stimulus workers =
    ready_course (watched_words until probes) design board by (resume_rest (ends_by until) (length probes) state stimulus workers)

-- ---- demo

-- the run of a demo: no net is watched, none ends it, and free latches start at 0
abbrev pub demo_run : ℕ → Course vocabulary
demo_run workers = run_course [] None design_name board_name made_here stimulus_name workers false

-- it goes over the generated texts, and a summary of its trace is written
abbrev pub demo_course : ℕ → ℕ → Course vocabulary
demo_course cells workers = on_texts (generated cells) (summary cells) (demo_run workers)

-- ---- all commands

-- words that spell no command: the first wrong one is at this place
abbrev pub usage_course : ℕ → Course vocabulary
usage_course place = refuses (Usage place)

abbrev pub course_of : Spelled → Course vocabulary
course_of (words.sim design stimulus unknown until probes) = sim_course probes until design stimulus unknown
course_of (words.check design board plan probes) = check_course probes design board plan
course_of (words.plan design board chips probes) = plan_course probes design board (by_chips chips)
course_of (words.run design board stimulus given workers unknown until probes) =
    run_course probes until design board (by_file given) stimulus workers unknown
course_of (words.demo cells workers) = demo_course cells workers
course_of (words.wave design stimulus unknown until probes) = wave_course probes until design stimulus unknown
course_of (words.grade design stimulus workers unknown share) = grade_course share design stimulus unknown
course_of (words.replay design stimulus state until probes) =
    replay_course (watched_words until probes) design state stimulus (replayed_trace_of_until (ends_by until))
course_of (words.replay_wave design stimulus state until probes) =
    replay_course (watched_words until probes) design state stimulus (replayed_wave_of_until (ends_by until) probes)
course_of (words.nets design probes) = nets_course probes design
course_of (words.save design board stimulus given workers unknown every until) =
    save_course until design board (by_file given) stimulus workers unknown every
course_of (words.resume design board state stimulus given workers until probes) =
    resume_course probes until design board (by_file given) state stimulus workers
course_of (words.report design board given probes) = report_course probes design board (by_file given)
course_of (words.emit design board given) = emit_course design board (by_file given)
course_of words.help = writes help_text
course_of words.version = writes version_text
course_of (words.nothing place) = usage_course place
