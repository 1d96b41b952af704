-- What each status says of words that spell no command.
use Rattle.std.specs.Prelude.{◌≡◌, ◌⊎◌, ℕ}
use Rattle.vw_course.specs.Statuses.{NoWork, IsRefusedFor, IsMemoryStop}
use Rattle.vw_courses.specs.declared.vocabulary.Reason.TheVariants.{Usage}
use Rattle.vw_courses.specs.Messages.{vocabulary, Call}

-- status 2 with the first wrong word, unless memory runs out; shelf and out are as they were
abbrev pub UsageStatuses : ℕ → Call → Type 0
UsageStatuses place call =
    IsRefusedFor vocabulary (λ reason. reason ≡ Usage place) call ⊎ IsMemoryStop NoWork call
