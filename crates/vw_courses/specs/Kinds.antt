-- What is good and bad of the files of commands, and of what is made of them.
use Rattle.std.specs.Prelude.{◌≡◌, ◌<◌, ◌≤◌, ◌+◌, ◌*◌, ℕ, Bool, true, List, length, Some, IsTrue, Result, Ok, Err}
use Rattle.std.proofs.Common.{sym, ap, subst, ◌∙◌}
use Rattle.std.proofs.Math.Nat.{not-le_of_lt}
use Rattle.std.proofs.lemmas.Option.{none-some}
use Rattle.vw_net.specs.declared.ordered.Ordered.{Ordered}
use Rattle.vw_design.specs.Paths.{Word}
use Rattle.vw_course.specs.Course.{Judged, Kind, Making}
use Rattle.vw_front.specs.declared.fault.NetlistFault.{NetlistFault}
use Rattle.vw_front.specs.Designs.{WatchedDesign, IsWatchedDesignOf, IsNetlistOf, RefusesDesign, design_apart, netlist_apart}
use Rattle.vw_front.specs.declared.named.NamedNetlist.{NamedNetlist}
use Rattle.vw_front.specs.NamedNetlists.{IsNamedNetlistOf, without_names}
use Rattle.vw_plan.specs.declared.board.Board.{Board}
use Rattle.vw_plan.specs.declared.plan.Plan.{Plan}
use Rattle.vw_plan.specs.Good.{IsGood}
use Rattle.vw_plan.specs.PlannedBoard.{PlannedBoard, planned_board}
use Rattle.vw_plan.specs.Sound.{IsSound}
use Rattle.vw_board.specs.declared.fault.BoardFault.{BoardFault}
use Rattle.vw_board.specs.BoardText.{Spells as SpellsBoard, Refuses as RefusesBoardText, is_text_fault as is_board_fault}
use Rattle.vw_board.proofs.OneBoard.{accepted_unrefused as board_unrefused}
use Rattle.vw_plantext.specs.declared.fault.PlanTextFault.{PlanTextFault}
use Rattle.vw_plantext.specs.PlanText.{Spells as SpellsPlan, Refuses as RefusesPlanLines, is_text_fault as is_plan_text_fault}
use Rattle.vw_plantext.proofs.OnePlan.{spelled_unrefused as plan_unrefused}
use Rattle.vw_plantext.specs.ChipsText.{SpellsChips, RefusesChips}
use Rattle.vw_plantext.proofs.OneChips.{chips_unrefused}
use Rattle.vw_check.specs.declared.fault.PlanFault.{PlanFault}
use Rattle.vw_check.specs.Answers.{HasPlace}
use Rattle.vw_check.specs.Faults.{chips_fault, plan_fault}
use Rattle.vw_check.proofs.SoundPlans.{faultless, placed_chips}
use Rattle.vw_report.specs.declared.findings.Findings.{Findings}
use Rattle.vw_report.specs.Findings.{AreFindings}
use Rattle.vw_rows.specs.declared.fault.StimFault.{StimFault}
use Rattle.vw_rows.specs.Stimulus.{stimulus_rows, is_text_fault}
use Rattle.vw_emit_text.specs.declared.fault.EmitFault.{EmitFault}
use Rattle.vw_emit_text.specs.Emitted.{FitsDesigns, IsEmitFault}
use Rattle.vw_emit_text.specs.Messages.{is_emit_fault}
use Rattle.vw_emit_text.proofs.Limits.{fits_apart}
use Rattle.vw_resume.specs.declared.fault.StateFault.{StateFault}
use Rattle.vw_resume.specs.declared.fault.StateFault.TheVariants.{TooManyClocks, TooFewClocks}
use Rattle.vw_resume.specs.declared.state.State.{State}
use Rattle.vw_resume.specs.States.{Spells as SpellsState, IsBadState as IsBadStateText}
use Rattle.vw_resume.proofs.ReadBack.{spelled_unrefused}
use Rattle.vw_rows.specs.declared.limits.TheConstants.{MOST_CLOCKS}
use Rattle.vw_run.specs.declared.fault.CompileFault.TheVariants.{TooManyCells}
use Rattle.vw_run.specs.GivenChips.{IsPlanFor}
use Rattle.vw_run.proofs.Fits.{sound_plans_fit}
use Rattle.vw_courses.specs.declared.vocabulary.File.TheVariants as files
use Rattle.vw_courses.specs.declared.vocabulary.Reason.{Reason}
use Rattle.vw_courses.specs.declared.vocabulary.Reason.TheVariants as reasons
use Rattle.vw_courses.specs.Messages.{reason_status, vocabulary}

-- ---- the design

-- why a text has no design that runs, in which each probe finds a net
abbrev pub IsBadDesign : List Word → List ℕ → Reason → Type 0
IsBadDesign probes text reason = (fault : NetlistFault) × (reason ≡ reasons.Design fault) × RefusesDesign probes text fault

-- what a design text gives: no text that is refused gives any
abbrev pub given_kind : {Thing : Type 0} (probes : List Word) (Spells : List ℕ → Thing → Type 0)
    → ((text : List ℕ) (its : Thing) (why : NetlistFault) → Spells text its → RefusesDesign probes text why → ⊥) → Kind vocabulary Thing
given_kind probes Spells apart = record {
  file = files.Design;
  number = 1;
  judged = λ text. record {
    Good = Spells text;
    Bad = IsBadDesign probes text;
    apart = λ its reason is bad. apart text its bad.0 is bad.2;
    its_status = λ reason bad. ap reason_status bad.1;
  };
}

-- the design that a text spells, with the nets that the probes find
abbrev pub design_kind : List Word → Kind vocabulary WatchedDesign
design_kind probes = given_kind probes (IsWatchedDesignOf probes) (design_apart probes)

-- its netlist, with an order of its gates
abbrev pub netlist_kind : List Word → Kind vocabulary Ordered
netlist_kind probes = given_kind probes (IsNetlistOf probes) (netlist_apart probes)

-- this netlist with the names of its nets
abbrev pub named_apart : (probes : List Word) (text : List ℕ) (named : NamedNetlist) (why : NetlistFault) → IsNamedNetlistOf probes text named
    → RefusesDesign probes text why → ⊥
named_apart probes text named why is = netlist_apart probes text named.ordered why (without_names probes text named is)

abbrev pub named_kind : List Word → Kind vocabulary NamedNetlist
named_kind probes = given_kind probes (IsNamedNetlistOf probes) (named_apart probes)

-- ---- the stimulus

-- an answer is not an error
abbrev pub HasValue : {A E : Type 0} → Result A E → Type 0
HasValue (Ok x) = Unit {0}
HasValue (Err e) = ⊥

-- the rows of a stimulus text for so many columns
abbrev pub IsRowsOf : ℕ → List ℕ → List (List Bool) → Type 0
IsRowsOf width text rows = stimulus_rows width text ≡ Ok rows

-- why a stimulus text has none
abbrev pub IsBadStimulus : ℕ → List ℕ → Reason → Type 0
IsBadStimulus width text reason =
    (fault : StimFault) × (reason ≡ reasons.Stimulus fault) × (stimulus_rows width text ≡ Err fault)

abbrev pub rows_apart : (width : ℕ) (text : List ℕ) (rows : List (List Bool)) (reason : Reason)
    → IsRowsOf width text rows → IsBadStimulus width text reason → ⊥
rows_apart width text rows reason are bad =
    subst (λ (said : Result (List (List Bool)) StimFault). HasValue said) bad.2
    (subst (λ (said : Result (List (List Bool)) StimFault). HasValue said) (sym are) tt)

abbrev pub rows_kind : ℕ → Kind vocabulary (List (List Bool))
rows_kind width = record {
  file = files.Stimulus;
  number = 5;
  judged = λ text. record {
    Good = IsRowsOf width text;
    Bad = IsBadStimulus width text;
    apart = rows_apart width text;
    its_status = λ reason bad. ap reason_status bad.1;
  };
}

-- why a stimulus that was accepted may be refused when it is read again: it has another text then, of which nothing is
-- told
abbrev pub IsBadAgain : Reason → Type 0
IsBadAgain reason = (fault : StimFault) × (reason ≡ reasons.Stimulus fault) × (is_text_fault fault ≡ true)

-- ---- the board

-- why a text spells no board
abbrev pub IsBadBoard : List ℕ → Reason → Type 0
IsBadBoard text reason =
    (fault : BoardFault) × (reason ≡ reasons.Board fault) × IsTrue (is_board_fault fault) × RefusesBoardText text fault

abbrev pub board_kind : Kind vocabulary Board
board_kind = record {
  file = files.Board;
  number = 3;
  judged = λ text. record {
    Good = SpellsBoard text;
    Bad = IsBadBoard text;
    apart = λ board reason is bad. board_unrefused text board bad.0 is bad.2 bad.3;
    its_status = λ reason bad. ap reason_status bad.1;
  };
}

-- ---- the plan

-- why a text spells no plan
abbrev pub IsBadPlanText : List ℕ → Reason → Type 0
IsBadPlanText text reason =
    (fault : PlanTextFault) × (reason ≡ reasons.PlanText fault) × IsTrue (is_plan_text_fault fault)
    × RefusesPlanLines text fault

abbrev pub plan_kind : Kind vocabulary Plan
plan_kind = record {
  file = files.Plan;
  number = 4;
  judged = λ text. record {
    Good = SpellsPlan text;
    Bad = IsBadPlanText text;
    apart = λ plan reason is bad. plan_unrefused text plan bad.0 is bad.2 bad.3;
    its_status = λ reason bad. ap reason_status bad.1;
  };
}

-- why a plan isn't sound
abbrev pub IsBadPlan : PlannedBoard → Reason → Type 0
IsBadPlan planned reason = (fault : PlanFault) × (reason ≡ reasons.Plan fault) × (plan_fault planned ≡ Some fault)

-- a plan is sound, or has a fault
abbrev pub soundness : PlannedBoard → Judged vocabulary (Unit {0}) 4
soundness planned = record {
  Good = λ done. IsSound planned;
  Bad = IsBadPlan planned;
  apart = λ done reason is bad. none-some bad.0 (sym (faultless planned is) ∙ bad.2);
  its_status = λ reason bad. ap reason_status bad.1;
}

-- ---- the chips of the cells

-- why a text has no line of chips, or something behind it
abbrev pub IsBadChipsText : List ℕ → Reason → Type 0
IsBadChipsText text reason =
    (fault : PlanTextFault) × (reason ≡ reasons.PlanText fault) × IsTrue (is_plan_text_fault fault)
    × RefusesChips text fault

abbrev pub chips_kind : Kind vocabulary (List ℕ)
chips_kind = record {
  file = files.Plan;
  number = 4;
  judged = λ text. record {
    Good = SpellsChips text;
    Bad = IsBadChipsText text;
    apart = λ chips reason is bad. chips_unrefused text chips bad.0 is bad.2 bad.3;
    its_status = λ reason bad. ap reason_status bad.1;
  };
}

-- why no plan has these chips: their number isn't that of the cells, or one isn't a chip, or one has too many cells
abbrev pub IsBadChips : Ordered → Board → List ℕ → Reason → Type 0
IsBadChips ordered board chips reason =
    (fault : PlanFault) × (reason ≡ reasons.Plan fault) × (chips_fault ordered.flat board chips ≡ Some fault)

-- a sound plan has a place for each cell
abbrev pub plan_place : (ordered : Ordered) (board : Board) (chips : List ℕ) (plan : Plan) → IsPlanFor ordered board chips plan → HasPlace ordered.flat board chips
plan_place ordered board chips plan is = subst (HasPlace ordered.flat board) is.chips (record {
  each = is.sound.one_chip_each.each;
  chips = is.sound.one_chip_each.chips;
  room = is.sound.one_chip_each.room;
})

abbrev pub place_unrefused : (ordered : Ordered) (board : Board) (chips : List ℕ) (reason : Reason) → HasPlace ordered.flat board chips → IsBadChips ordered board chips reason → ⊥
place_unrefused ordered board chips reason place bad = none-some bad.0 (sym (placed_chips ordered.flat board chips place) ∙ bad.2)

-- a plan for them is made wherever each cell has a place
abbrev pub planning_for : Ordered → Board → List ℕ → Making vocabulary Plan 4
planning_for ordered board chips = record {
  judged = record {
    Good = IsPlanFor ordered board chips;
    Bad = IsBadChips ordered board chips;
    apart = λ plan reason is bad. place_unrefused ordered board chips reason (plan_place ordered board chips plan is) bad;
    its_status = λ reason bad. ap reason_status bad.1;
  };
  Comes = HasPlace ordered.flat board chips;
  sure = λ reason place bad. place_unrefused ordered board chips reason place bad;
}

-- ---- a plan that is made

-- why there is none: all chips have room for fewer cells
abbrev pub IsBadFit : Ordered → Board → Reason → Type 0
IsBadFit ordered board reason =
    (reason ≡ reasons.Fit (TooManyCells (length ordered.flat.cells) (board.chips * board.cells)))
    × (board.chips * board.cells < length ordered.flat.cells)

-- all chips have room for the cells
abbrev pub ChipsHaveRoom : Ordered → Board → Type 0
ChipsHaveRoom ordered board = length ordered.flat.cells ≤ board.chips * board.cells

-- a good plan is made wherever the cells have room
abbrev pub planning : Ordered → Board → Making vocabulary Plan 6
planning ordered board = record {
  judged = record {
    Good = λ plan. IsGood (planned_board ordered board plan);
    Bad = IsBadFit ordered board;
    apart = λ plan reason good bad. not-le_of_lt bad.1 (sound_plans_fit (planned_board ordered board plan) good.sound);
    its_status = λ reason bad. ap reason_status bad.0;
  };
  Comes = ChipsHaveRoom ordered board;
  sure = λ reason room bad. not-le_of_lt bad.1 room;
}

-- ---- a planned board in numbers and names

-- something is always found out of a sound plan
abbrev pub reporting : PlannedBoard → Making vocabulary Findings 0
reporting planned = record {
  judged = record {
    Good = AreFindings planned;
    Bad = λ reason. ⊥;
    apart = λ found reason good bad. bad;
    its_status = λ reason bad. absurd bad;
  };
  Comes = Unit {0};
  sure = λ reason comes bad. bad;
}

-- ---- a planned board as a design

-- why it isn't written: it, or its text, is above a limit of designs, and this is the first one
abbrev pub IsBadEmission : PlannedBoard → Reason → Type 0
IsBadEmission planned reason = (fault : EmitFault) × (reason ≡ reasons.Emit fault) × IsTrue (is_emit_fault fault) × IsEmitFault planned fault

-- it is within the limits, or above one
abbrev pub emission : PlannedBoard → Judged vocabulary (Unit {0}) 10
emission planned = record {
  Good = λ done. FitsDesigns planned;
  Bad = IsBadEmission planned;
  apart = λ done reason fits bad. fits_apart planned bad.0 fits bad.2 bad.3;
  its_status = λ reason bad. ap reason_status bad.1;
}

-- ---- the state

-- a text spells a state of a design with so many latches
pub record IsStateOf (latches : ℕ) (text : List ℕ) (state : State) : Type 0 where
  pub spells : SpellsState text state
  pub its_latches : length state.latches ≡ latches

-- why it spells none
abbrev pub IsBadState : ℕ → List ℕ → Reason → Type 0
IsBadState latches text reason =
    (fault : StateFault) × (reason ≡ reasons.State fault) × IsBadStateText latches text fault

abbrev pub state_apart : (latches : ℕ) (text : List ℕ) (state : State) (reason : Reason) → IsStateOf latches text state → IsBadState latches text reason → ⊥
state_apart latches text state reason is (fault, same, bad) = spelled_unrefused text latches state fault is.spells is.its_latches bad

abbrev pub state_kind : ℕ → Kind vocabulary State
state_kind latches = record {
  file = files.State;
  number = 11;
  judged = λ text. record {
    Good = IsStateOf latches text;
    Bad = IsBadState latches text;
    apart = state_apart latches text;
    its_status = λ reason bad. ap reason_status bad.1;
  };
}

-- why rows can't follow a state with this clock: these are more clocks together than a trace has
abbrev pub AreTooManyClocks : ℕ → List (List Bool) → Reason → Type 0
AreTooManyClocks clock rows reason = (reason ≡ reasons.State (TooManyClocks (clock + length rows))) × (MOST_CLOCKS < clock + length rows)

-- they can, or can't
abbrev pub clocks_fit : ℕ → List (List Bool) → Judged vocabulary (Unit {0}) 11
clocks_fit clock rows = record {
  Good = λ done. clock + length rows ≤ MOST_CLOCKS;
  Bad = AreTooManyClocks clock rows;
  apart = λ done reason fits bad. not-le_of_lt bad.1 fits;
  its_status = λ reason bad. ap reason_status bad.0;
}

-- why rows don't reach a state with this clock: they are fewer
abbrev pub AreTooFewClocks : ℕ → List (List Bool) → Reason → Type 0
AreTooFewClocks clock rows reason = (reason ≡ reasons.State (TooFewClocks (length rows) clock)) × (length rows < clock)

-- they do, or don't
abbrev pub clocks_reach : ℕ → List (List Bool) → Judged vocabulary (Unit {0}) 11
clocks_reach clock rows = record {
  Good = λ done. clock ≤ length rows;
  Bad = AreTooFewClocks clock rows;
  apart = λ done reason reached bad. not-le_of_lt bad.1 reached;
  its_status = λ reason bad. ap reason_status bad.0;
}
