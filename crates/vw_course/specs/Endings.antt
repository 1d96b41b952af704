-- How a call ends: its status and its message; and what a call of a course is.
use Rattle.std.specs.Prelude.{◌≡◌, ◌⊎◌, ℕ, List, [], ◌∷◌, ◌++◌, codes, Ok, Err}
use Rattle.vw_outside.specs.Writes.{SeenSink, appended, FailedAfterPart}
use Rattle.vw_course.specs.declared.unfinished.Unfinished.{Unfinished}
use Rattle.vw_course.specs.declared.unfinished.Unfinished.TheVariants.{ReadFault, WriteFault, NoMemory, Refused}
use Rattle.vw_course.specs.Vocabulary.{Vocabulary}
use Rattle.vw_course.specs.Outside.{SeenOutside}
use Rattle.vw_course.specs.Course.{Course}
use Rattle.vw_course.specs.Follows.{Answer, Follows}

-- the message lines of a write that failed and of want of memory, with the byte that ends the line
abbrev pub write_line : List ℕ
write_line = codes "write fault" ++ 10 ∷ []

abbrev pub memory_line : List ℕ
memory_line = codes "out of memory" ++ 10 ∷ []

abbrev pub status_of : (V : Vocabulary) → Unfinished V.File V.Reason → ℕ
status_of V (ReadFault file) = 7
status_of V WriteFault = 8
status_of V NoMemory = 9
status_of V (Refused reason) = V.status reason

abbrev pub message_line : (V : Vocabulary) → Unfinished V.File V.Reason → List ℕ
message_line V (ReadFault file) = V.read_line file
message_line V WriteFault = write_line
message_line V NoMemory = memory_line
message_line V (Refused reason) = V.line reason

-- err has the line at its end; or a part of it, where a write to err failed
abbrev pub IsReported : List ℕ → SeenSink → SeenSink → Type 0
IsReported line before after = (after ≡ appended before line) ⊎ FailedAfterPart line before after

-- the status is that of the answer, and err has its line; err is as it was where the call was carried out
abbrev pub Ends : (V : Vocabulary) → Answer V → SeenSink → SeenSink → ℕ → Type 0
Ends V (Ok done) before after status = (status ≡ 0) × (after ≡ before)
Ends V (Err unfinished) before after status =
    (status ≡ status_of V unfinished) × IsReported (message_line V unfinished) before after

-- what is seen of a call: the outside and err before it and after it, and its exit status
pub record SeenCall (Word : Type 0) : Type 0 where
  pub before : SeenOutside Word
  pub after : SeenOutside Word
  pub err_before : SeenSink
  pub err_after : SeenSink
  pub status : ℕ

-- a call of a course: it follows the course, and ends with the status and the message of its answer
pub record IsCallOf {V : Vocabulary} (course : Course V) (call : SeenCall V.Word) : Type 0 where
  pub answer : Answer V
  pub follows : Follows course call.before call.after answer
  pub ends : Ends V answer call.err_before call.err_after call.status
