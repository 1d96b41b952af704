-- What commands make, and how they end.
use Rattle.std.specs.Prelude.{◌≡◌, ◌+◌, ◌≤◌, ◌<◌, ℕ, List, Result, Ok, Err}
use Rattle.vw_course.specs.declared.unfinished.Unfinished.{Unfinished}
use Rattle.vw_course.specs.declared.unfinished.Unfinished.TheVariants.{ReadFault, WriteFault, NoMemory, Refused}
use Rattle.vw_plan.specs.PlannedBoard.{PlannedBoard}
use Rattle.std.specs.Global.{Vec}
use Rattle.vw_emit_text.specs.Emitted.{FitsDesigns, emitted_text}
use Rattle.vw_report.specs.Report.{IsReport}
use Rattle.vw_resume.specs.declared.fault.StateFault.TheVariants.{TooManyClocks, TooFewClocks}
use Rattle.vw_rows.specs.declared.limits.TheConstants.{MOST_CLOCKS}
use Rattle.vw_trace.specs.declared.fault.RunFault.{RunFault}
use Rattle.vw_trace.specs.declared.fault.RunFault.TheVariants as runs
use Rattle.vw_courses.specs.declared.vocabulary.File.{File}
use Rattle.vw_courses.specs.declared.vocabulary.File.TheVariants as files
use Rattle.vw_courses.specs.declared.vocabulary.Reason.{Reason}
use Rattle.vw_courses.specs.declared.vocabulary.Reason.TheVariants as reasons

-- the text of the planned board, which is within the limits
pub record IsEmitted (planned : PlannedBoard) (text : Vec ℕ) : Type 0 where
  pub fits : FitsDesigns planned
  pub is : text.items ≡ emitted_text planned

-- the report of the planned board, whose nets have these names
abbrev pub IsReportText : PlannedBoard → List (List ℕ) → Vec ℕ → Type 0
IsReportText planned names text = IsReport planned names text.items

-- no reason
abbrev pub IsNoReason : Reason → Type 0
IsNoReason reason = ⊥

-- the answer of a command that ran over its stimulus, or that stopped while it did
abbrev pub run_answer : Result (Unit {0}) RunFault → Result (Unit {0}) (Unfinished File Reason)
run_answer (Ok done) = Ok done
run_answer (Err runs.ReadFault) = Err (ReadFault files.Stimulus)
run_answer (Err runs.WriteFault) = Err WriteFault
run_answer (Err (runs.Stimulus fault)) = Err (Refused (reasons.Stimulus fault))
run_answer (Err runs.NoMemory) = Err NoMemory

-- so many clocks can follow those before a state, or they are too many together
abbrev pub EndsClocks : ℕ → ℕ → Result (Unit {0}) (Unfinished File Reason) → Type 0
EndsClocks before clocks (Ok done) = before + clocks ≤ MOST_CLOCKS
EndsClocks before clocks (Err unfinished) =
    (unfinished ≡ Refused (reasons.State (TooManyClocks (before + clocks)))) × (MOST_CLOCKS < before + clocks)

-- so many clocks reach a state before this one, or they are too few
abbrev pub EndsReach : ℕ → ℕ → Result (Unit {0}) (Unfinished File Reason) → Type 0
EndsReach clock clocks (Ok done) = clock ≤ clocks
EndsReach clock clocks (Err unfinished) =
    (unfinished ≡ Refused (reasons.State (TooFewClocks clocks clock))) × (clocks < clock)
