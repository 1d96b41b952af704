-- A call that follows the course of the command that words spell.
use Rattle.std.proofs.Common.{◌≡◌, List, ℕ, sym, subst}
use Rattle.vw_course.specs.Endings.{IsCallOf}
use Rattle.vw_courses.specs.Commands.{course_of}
use Rattle.vw_courses.specs.Messages.{Call}
use Rattle.vw_courses.specs.Words.{Spelled, spelled_by}

pub called_by : (words : List (List ℕ)) (spelled : Spelled) → spelled_by words ≡ spelled → (call : Call) → IsCallOf (course_of spelled) call → IsCallOf (course_of (spelled_by words)) call
called_by words spelled same call is = subst (λ (one : Spelled). IsCallOf (course_of one) call) (sym same) is
