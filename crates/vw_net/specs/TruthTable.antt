-- The truth table of a gate of at most six inputs: its values in one number of 64 bits, each at its place.
use Rattle.std.specs.Prelude.{ℕ, zero, suc, ◌+◌, ◌*◌, ◌/◌, ◌%◌, ◌^◌, ◌==◌, Bool, List, [], ◌∷◌, map, bit_and, nat_le, if◌then◌else◌}
use Rattle.std.specs.List.{range_with_len}
use Rattle.vw_net.specs.Table.{Table}
use Rattle.vw_net.specs.Cover.{cover_value}

-- the place of some values: the number whose bit i is the value of input i
abbrev pub place_of : List Bool → ℕ
place_of [] = 0
place_of (bit ∷ bits) = (if bit then 1 else 0) + 2 * place_of bits

-- the values of so many inputs at a place
abbrev pub values_at : ℕ → ℕ → List Bool
values_at zero place = []
values_at (suc inputs) place = (place % 2 == 1) ∷ values_at inputs (place / 2)

-- the value of a truth table at a place: its bit of that number
abbrev pub bit_of : ℕ → ℕ → Bool
bit_of truth_table place = bit_and (truth_table / 2 ^ place) 1 == 1

-- the truth table of a table of at most six inputs: at each of 64 places, its value of the values there; 0 for a wider one
unfoldable pub truth_table : Table → ℕ
truth_table table = if nat_le table.inputs 6 then place_of (map (λ place. cover_value table (values_at table.inputs place)) (range_with_len 0 64)) else 0
