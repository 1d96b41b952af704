-- The states of a history that are kept, clock by clock.
use Rattle.std.specs.Prelude.{ℕ, ◌+◌, ◌%◌, ◌==◌, Bool, not, ◌&&◌, List, [], ◌∷◌, ◌++◌, length, if◌then◌else◌}
use Rattle.vw_net.specs.History.{History}
use Rattle.vw_resume.specs.States.{state_text}

-- whether the state before a clock is kept, which isn't the end
abbrev pub is_kept : ℕ → ℕ → Bool
is_kept every clock = not (clock == 0) && clock % every == 0

-- its text, where it is kept
abbrev pub kept_text : ℕ → ℕ → List Bool → List ℕ
kept_text every clock state = if is_kept every clock then state_text clock state else []

-- the texts of states before clocks, of which the first has this number
abbrev pub kept_before : ℕ → ℕ → List (List Bool) → List ℕ
kept_before every clock [] = []
kept_before every clock (state ∷ states) = kept_text every clock state ++ kept_before every (clock + 1) states

-- those of a history whose first clock has this number, and that of its end
abbrev pub kept_from : ℕ → ℕ → History → List ℕ
kept_from every clock history = kept_before every clock history.states ++ state_text (clock + length history.states) history.last
