-- A row of a table as two numbers with a bit for each input: the inputs that it looks at, and the values that it wants there.
use Rattle.std.specs.Prelude.{ℕ, zero, suc, ◌/◌, ◌%◌, ◌==◌, Bool, true, false, List, [], ◌∷◌, map, bit_and, bit_xor, if◌then◌else◌}
use Rattle.vw_net.specs.declared.cover.Mark.{Mark}
use Rattle.vw_net.specs.declared.cover.Mark.TheVariants.{Zero, One, Any}
use Rattle.vw_net.specs.declared.cover.Row.{Row}
use Rattle.vw_net.specs.declared.masks.Masks.{Masks}
use Rattle.vw_net.specs.TruthTable.{place_of}

-- whether a mark looks at its input, and whether it wants the value 1 there
abbrev pub is_looked : Mark → Bool
is_looked Zero = true
is_looked One = true
is_looked Any = false

abbrev pub is_wanted : Mark → Bool
is_wanted Zero = false
is_wanted One = true
is_wanted Any = false

-- the masks of a row with these marks
abbrev pub masks_of : List Mark → Masks
masks_of marks = record { looked = place_of (map is_looked marks); wanted = place_of (map is_wanted marks) }

-- the mark of two bits
abbrev pub mark_of : Bool → Bool → Mark
mark_of looked wanted = if looked then (if wanted then One else Zero) else Any

-- the marks for so many inputs, from the lowest bits on
abbrev pub marks_of : ℕ → ℕ → ℕ → List Mark
marks_of zero looked wanted = []
marks_of (suc inputs) looked wanted = mark_of (looked % 2 == 1) (wanted % 2 == 1) ∷ marks_of inputs (looked / 2) (wanted / 2)

-- the rows that some masks are kept for
abbrev pub row_of : ℕ → Masks → Row
row_of inputs masks = record { marks = marks_of inputs masks.looked masks.wanted }

-- the rows that a list of masks is kept for
abbrev pub rows_of : ℕ → List Masks → List Row
rows_of inputs list = map (row_of inputs) list

-- whether the inputs at this place have the values that are wanted wherever they are looked at
abbrev pub is_matched : ℕ → Masks → Bool
is_matched place masks = bit_and (bit_xor place masks.wanted) masks.looked == 0
