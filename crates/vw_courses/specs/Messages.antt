-- The files of commands and the reasons for which they refuse, with their statuses and message lines.
use Rattle.std.specs.Prelude.{◌<◌, ℕ, List, [], ◌∷◌, ◌++◌, codes}
use Rattle.std.specs.Fmt.{decimal}
use Rattle.std.proofs.Common.{inl, inr, lit<}
use Rattle.vw_course.specs.Vocabulary.{Vocabulary, IsNoStop, vocabulary_of}
use Rattle.vw_course.specs.Outside.{Work}
use Rattle.vw_course.specs.Endings.{SeenCall}
use Rattle.vw_front.specs.Messages.{fault_text as design_fault_text}
use Rattle.vw_board.specs.Messages.{fault_text as board_fault_text}
use Rattle.vw_plantext.specs.Messages.{fault_text as plan_text_fault_text}
use Rattle.vw_check.specs.Messages.{fault_text as plan_fault_text}
use Rattle.vw_prog.specs.declared.word.Word.{Word}
use Rattle.vw_emit_text.specs.Messages.{fault_text as emit_fault_text}
use Rattle.vw_resume.specs.Messages.{fault_text as state_fault_text}
use Rattle.vw_run.specs.Messages.{fault_text as compile_fault_text}
use Rattle.vw_rows.specs.Messages.{fault_text as stimulus_fault_text}
use Rattle.vw_courses.specs.declared.vocabulary.File.{File}
use Rattle.vw_courses.specs.declared.vocabulary.File.TheVariants as files
use Rattle.vw_courses.specs.declared.vocabulary.Reason.{Reason}
use Rattle.vw_courses.specs.declared.vocabulary.Reason.TheVariants.{Design, Usage, Board, PlanText, Plan, Stimulus, Fit, Emit, State}

abbrev pub file_text : File → List ℕ
file_text files.Design = codes "design"
file_text files.Board = codes "board"
file_text files.Plan = codes "plan"
file_text files.State = codes "state"
file_text files.Stimulus = codes "stimulus"

-- each line with the byte that ends it
abbrev pub file_line : File → List ℕ
file_line file = codes "read fault: " ++ file_text file ++ 10 ∷ []

abbrev pub reason_status : Reason → ℕ
reason_status (Design fault) = 1
reason_status (Usage place) = 2
reason_status (Board fault) = 3
reason_status (PlanText fault) = 4
reason_status (Plan fault) = 4
reason_status (Stimulus fault) = 5
reason_status (Fit fault) = 6
reason_status (Emit fault) = 10
reason_status (State fault) = 11

abbrev pub reason_line : Reason → List ℕ
reason_line (Design fault) = design_fault_text fault
reason_line (Usage place) = codes "usage: word " ++ decimal place ++ 10 ∷ []
reason_line (Board fault) = board_fault_text fault
reason_line (PlanText fault) = plan_text_fault_text fault
reason_line (Plan fault) = plan_fault_text fault
reason_line (Stimulus fault) = stimulus_fault_text fault
reason_line (Fit fault) = compile_fault_text fault
reason_line (Emit fault) = emit_fault_text fault
reason_line (State fault) = state_fault_text fault

-- the statuses are those from 1 to 6, 10 and 11
abbrev pub reason_some : (reason : Reason) → 0 < reason_status reason
reason_some (Design fault) = lit< tt
reason_some (Usage place) = lit< tt
reason_some (Board fault) = lit< tt
reason_some (PlanText fault) = lit< tt
reason_some (Plan fault) = lit< tt
reason_some (Stimulus fault) = lit< tt
reason_some (Fit fault) = lit< tt
reason_some (Emit fault) = lit< tt
reason_some (State fault) = lit< tt

abbrev pub reason_few : (reason : Reason) → IsNoStop (reason_status reason)
reason_few (Design fault) = inl (lit< tt)
reason_few (Usage place) = inl (lit< tt)
reason_few (Board fault) = inl (lit< tt)
reason_few (PlanText fault) = inl (lit< tt)
reason_few (Plan fault) = inl (lit< tt)
reason_few (Stimulus fault) = inl (lit< tt)
reason_few (Fit fault) = inl (lit< tt)
reason_few (Emit fault) = inr (lit< tt, lit< tt)
reason_few (State fault) = inr (lit< tt, lit< tt)

-- what the courses of commands speak of
abbrev pub vocabulary : Vocabulary
vocabulary = vocabulary_of File Reason Word file_line reason_status reason_line reason_some reason_few

-- what is seen of a call, and the work of one
abbrev pub Call : Type 0
Call = SeenCall vocabulary.Word

abbrev pub CallWork : Type 0
CallWork = Work vocabulary.Word
