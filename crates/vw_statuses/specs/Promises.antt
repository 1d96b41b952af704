-- What each command has written where it ends with status 0, by its words and its files alone: no course, no message and no other
-- status is spoken of.
use Rattle.std.specs.Prelude.{◌≡◌, ℕ, Bool, List, Option, [], length}
use Rattle.vw_net.specs.declared.ordered.Ordered.{Ordered}
use Rattle.vw_design.specs.Paths.{Word}
use Rattle.vw_design.specs.Clocks.{columns}
use Rattle.vw_front.specs.Designs.{WatchedDesign}
use Rattle.vw_front.specs.declared.named.NamedNetlist.{NamedNetlist}
use Rattle.vw_front.specs.NamedNetlists.{IsNamedNetlistOf}
use Rattle.vw_outside.specs.Told.{Told, held}
use Rattle.vw_outside.specs.Writes.{SeenSink, appended}
use Rattle.vw_plan.specs.declared.board.Board.{Board}
use Rattle.vw_plan.specs.declared.plan.Plan.{Plan}
use Rattle.vw_courses.specs.Commands.{TextFrom, ends_by, grading_of, nets_text, over_counted, replayed_trace_of_until, replayed_wave_of_until, saved_of, texts_kept, watched_words, wave_of_until}
use Rattle.vw_courses.specs.Help.{help_text, version_text}
use Rattle.vw_courses.specs.Kinds.{IsRowsOf}
use Rattle.vw_courses.specs.MayPlan.{PlanBy, made_here, of_file, for_chips, by_file, by_chips}
use Rattle.vw_courses.specs.Words.{Spelled}
use Rattle.vw_courses.specs.Words as words
use Rattle.vw_statuses.specs.DemoStatuses.{HasSummary}
use Rattle.vw_statuses.specs.EmittedBoards.{WritesBoard}
use Rattle.vw_statuses.specs.Headline.{WritesOver, WritesTrace}
use Rattle.vw_statuses.specs.PlannedStatuses.{PlanTexts, AreSpelled}
use Rattle.vw_statuses.specs.WrittenStatuses.{plan_text, size_text}
use Rattle.vw_statuses.specs.ReplayStatuses.{AreReplayed, Replay}
use Rattle.vw_statuses.specs.ReportStatuses.{ReportsPlan}
use Rattle.vw_statuses.specs.ResumeStatuses.{AreResumed, Resumption, ResumeTexts, trace_from_state_until}

-- out has, behind what it had before, the grading of the netlist of one text over the rows of the other, or of a share of its faults
pub record WritesGrading (share : Option (ℕ × ℕ)) (unknown : Bool) (d s : List ℕ) (before after : SeenSink) : Type 0 where
  pub named : NamedNetlist
  pub rows : List (List Bool)
  pub netlist_is : IsNamedNetlistOf [] d named
  pub rows_are : IsRowsOf named.ordered.flat.inputs s rows
  pub wrote : after ≡ appended before (grading_of share unknown named rows)

-- the netlist of a text, with its names
pub record WritesNetlist (probes : List Word) (d : List ℕ) (before after : SeenSink) : Type 0 where
  pub named : NamedNetlist
  pub netlist_is : IsNamedNetlistOf probes d named
  pub wrote : after ≡ appended before (nets_text probes named)

-- such a text of a planned board, by a plan that is given and sound, or made and good, or made for the chips of a text
pub record WritesPlanned (probes : List Word) (by : PlanBy) (text : Ordered → Board → Plan → List ℕ) (texts : PlanTexts) (before after : SeenSink) : Type 0 where
  pub ordered : Ordered
  pub board : Board
  pub plan : Plan
  pub are : AreSpelled probes by texts ordered board plan
  pub wrote : after ≡ appended before (text ordered board plan)

-- the report of such a plan, with the names of the nets
pub record WritesReport (probes : List Word) (by : PlanBy) (texts : PlanTexts) (before after : SeenSink) : Type 0 where
  pub text : List ℕ
  pub reports : ReportsPlan probes by texts text
  pub wrote : after ≡ appended before text

-- the trace of the netlist of one text, with probes, from the state of another on, over the rows of the third, or over those that
-- count where there is a trigger
pub record WritesResumed (probes : List Word) (until : Option Word) (texts : ResumeTexts) (s : List ℕ) (before after : SeenSink) : Type 0 where
  pub its : Resumption
  pub rows : List (List Bool)
  pub are : AreResumed (watched_words until probes) texts its
  pub rows_are : IsRowsOf its.ordered.flat.inputs s rows
  pub wrote : after ≡ appended before (trace_from_state_until (ends_by until) probes its rows)

-- such a text of the design of one text, with probes, from the state of another on, over the rows of the third from its clock on
pub record WritesReplayed (probes : List Word) (text : TextFrom WatchedDesign) (texts : ResumeTexts) (s : List ℕ) (before after : SeenSink) : Type 0 where
  pub its : Replay
  pub rows : List (List Bool)
  pub are : AreReplayed probes texts its
  pub rows_are : IsRowsOf (length (columns its.watched.design)) s rows
  pub wrote : after ≡ appended before (text its.state its.watched rows)

-- so for a command over these files
abbrev pub PromisesReplay : List Word → TextFrom WatchedDesign → List ℕ → List ℕ → List ℕ → (List ℕ → Told) → SeenSink → SeenSink → Type 0
PromisesReplay probes text design state stimulus told before after =
    (d t s : List ℕ) → told design ≡ held d → told state ≡ held t → told stimulus ≡ held s → WritesReplayed probes text (record { design = d; state = t }) s before after

-- the texts of the design, the board, and the plan or the chips that are given, are held
abbrev pub AreHeld : (List ℕ → Told) → List ℕ → List ℕ → PlanBy → PlanTexts → Type 0
AreHeld told design board made_here texts = (told design ≡ held texts.design) × (told board ≡ held texts.board)
AreHeld told design board (of_file plan) texts = (told design ≡ held texts.design) × (told board ≡ held texts.board) × (told plan ≡ held texts.plan)
AreHeld told design board (for_chips chips) texts = (told design ≡ held texts.design) × (told board ≡ held texts.board) × (told chips ≡ held texts.plan)

-- what a command has written, by what was told of its files before; words that spell none never end so
abbrev pub Promise : Spelled → (List ℕ → Told) → SeenSink → SeenSink → Type 0
Promise (words.sim design stimulus unknown until probes) told before after = (d s : List ℕ) → told design ≡ held d → told stimulus ≡ held s → WritesTrace probes until unknown d s before after
Promise (words.wave design stimulus unknown until probes) told before after = (d s : List ℕ) → told design ≡ held d → told stimulus ≡ held s → WritesOver (watched_words until probes) (wave_of_until (ends_by until) probes unknown) d s before after
Promise (words.grade design stimulus workers unknown share) told before after = (d s : List ℕ) → told design ≡ held d → told stimulus ≡ held s → WritesGrading share unknown d s before after
Promise (words.replay design stimulus state until probes) told before after =
    PromisesReplay (watched_words until probes) (replayed_trace_of_until (ends_by until)) design state stimulus told before after
Promise (words.replay_wave design stimulus state until probes) told before after =
    PromisesReplay (watched_words until probes) (replayed_wave_of_until (ends_by until) probes) design state stimulus told before after
Promise (words.nets design probes) told before after = (d : List ℕ) → told design ≡ held d → WritesNetlist probes d before after
Promise (words.check design board plan probes) told before after = (texts : PlanTexts) → AreHeld told design board (of_file plan) texts → WritesPlanned probes (of_file plan) size_text texts before after
Promise (words.plan design board chips probes) told before after = (texts : PlanTexts) → AreHeld told design board (by_chips chips) texts → WritesPlanned probes (by_chips chips) plan_text texts before after
Promise (words.run design board stimulus given workers unknown until probes) told before after = (d s : List ℕ) → told design ≡ held d → told stimulus ≡ held s → WritesTrace probes until unknown d s before after
Promise (words.demo cells workers) told before after = HasSummary cells (λ text. after ≡ appended before text)
Promise (words.save design board stimulus given workers unknown every until) told before after =
    (d s : List ℕ) → told design ≡ held d → told stimulus ≡ held s
    → WritesOver (watched_words until []) (over_counted (ends_by until) unknown (texts_kept every (saved_of unknown))) d s before after
Promise (words.resume design board state stimulus given workers until probes) told before after =
    (d t s : List ℕ) → told design ≡ held d → told state ≡ held t → told stimulus ≡ held s → WritesResumed probes until (record { design = d; state = t }) s before after
Promise (words.report design board given probes) told before after =
    (texts : PlanTexts) → AreHeld told design board (by_file given) texts → WritesReport probes (by_file given) texts before after
Promise (words.emit design board given) told before after = (texts : PlanTexts) → AreHeld told design board (by_file given) texts → WritesBoard (by_file given) texts before after
Promise words.help told before after = after ≡ appended before help_text
Promise words.version told before after = after ≡ appended before version_text
Promise (words.nothing place) told before after = ⊥
