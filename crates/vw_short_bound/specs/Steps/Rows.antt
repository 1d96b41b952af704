-- Rows of bits, 64 to a word.
use Rattle.std.specs.Prelude.{◌==◌, ◌/◌, ◌%◌, ℕ, Bool, List, slice_index}
use Rattle.std.specs.Int.{bit_at}

-- whether a place has its bit
abbrev pub has : List ℕ → ℕ → Bool
has words place = bit_at (slice_index words (place / 64)) (place % 64) == 1
