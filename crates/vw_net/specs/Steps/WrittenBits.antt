-- Bits that others are written over.
use Rattle.std.specs.Prelude.{ℕ, Bool, List, [], ◌∷◌, slice_set}

-- bits with others at some places
abbrev pub with_bits : List ℕ → List Bool → List Bool → List Bool
with_bits [] others bits = bits
with_bits (place ∷ places) [] bits = bits
with_bits (place ∷ places) (other ∷ others) bits = with_bits places others (slice_set bits place other)
