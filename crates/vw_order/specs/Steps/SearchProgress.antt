-- The progress of numbers, and the first one that isn't done among those that a number reads, from a place on.
use Rattle.std.specs.Prelude.{◌≡◌, ◌≢◌, ◌<◌, ◌≤◌, ℕ, Bool, true, false, List, Option, Some, None, slice_get, slice_index_or}
use Rattle.vw_order.specs.declared.progress.Progress.{Progress}
use Rattle.vw_order.specs.declared.progress.Progress.TheVariants.{Fresh, Open, Done}
use Rattle.vw_order.specs.declared.progress.Ahead.{Ahead}

abbrev pub is_fresh_progress : Progress → Bool
is_fresh_progress Fresh = true
is_fresh_progress Open = false
is_fresh_progress Done = false

abbrev pub is_open_progress : Progress → Bool
is_open_progress Fresh = false
is_open_progress Open = true
is_open_progress Done = false

abbrev pub is_done_progress : Progress → Bool
is_done_progress Fresh = false
is_done_progress Open = false
is_done_progress Done = true

-- between two places all that is read is done
abbrev pub AreDone : List Progress → List (Option ℕ) → ℕ → ℕ → Type 0
AreDone progress reads from end =
    (place other : ℕ) → from ≤ place → place < end → slice_get reads place ≡ Some (Some other) → slice_index_or progress other Fresh ≡ Done

abbrev pub IsAhead : List Progress → ℕ → List (Option ℕ) → Option Ahead → Type 0
IsAhead progress from reads None =
    (place other : ℕ) → from ≤ place → slice_get reads place ≡ Some (Some other) → slice_index_or progress other Fresh ≡ Done
IsAhead progress from reads (Some ahead) =
    AreDone progress reads from ahead.place × (slice_get reads ahead.place ≡ Some (Some ahead.number)) × (slice_index_or progress ahead.number Fresh ≢ Done)
