-- What each status says of a command that reads nothing and writes a text that is always the same.
use Rattle.std.specs.Prelude.{◌≡◌, ◌⊎◌, ℕ, List, []}
use Rattle.vw_course.specs.Course.{writing}
use Rattle.vw_course.specs.Statuses.{IsDone, IsWriteStop, IsMemoryStop, CompletesAt}
use Rattle.vw_courses.specs.Messages.{vocabulary, Call, CallWork}

-- this text was written
abbrev pub IsText : List ℕ → CallWork → Type 0
IsText text did = did ≡ writing text

pub record ConstantStatuses (text : List ℕ) (call : Call) : Type 0 where
  -- 0: the text is written, and nothing else changed; 8: a fault was counted at out, which has a part of it; 9: out has a part of
  -- it at most
  pub ends : IsDone (IsText text) call ⊎ (IsWriteStop (IsText text) call ⊎ IsMemoryStop (IsText text) call)
  -- where the count of out didn't rise, it is written, unless memory runs out
  pub complete : CompletesAt vocabulary [] call
