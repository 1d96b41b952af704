-- Marks of nets that may reach an output.
use Rattle.std.specs.Prelude.{ℕ, Bool, true, List, slice_index_or}

-- the mark of a net; a net that there isn't counts as marked
abbrev pub is_marked : List Bool → ℕ → Bool
is_marked marks net = slice_index_or marks net true
