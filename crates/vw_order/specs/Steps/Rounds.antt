-- Places in a circle of numbers.
use Rattle.std.specs.Prelude.{◌<◌, ◌≤◌, ◌==◌, ℕ, List, length, drop, slice_index}
use Rattle.std.specs.List.{position_or_len}

-- the place of the least of some numbers
abbrev pub IsLeast : List ℕ → ℕ → Type 0
IsLeast numbers place =
    (place < length numbers) × ((other : ℕ) → other < length numbers → slice_index numbers place ≤ slice_index numbers other)

-- numbers from the first place of one of them on
abbrev pub round_from : ℕ → List ℕ → List ℕ
round_from number numbers = drop (position_or_len (λ other. other == number) numbers) numbers
