-- How the truth table of a cover is worked out: input by input, row by row. A set of places is a number with a bit for each.
use Rattle.std.specs.Prelude.{ℕ, ◌+◌, ◌-◌, ◌^◌, Bool, List, [], ◌∷◌, bit_and, bit_or, slice_index_or, nat_le, if◌then◌else◌}
use Rattle.vw_net.specs.declared.cover.Mark.{Mark}
use Rattle.vw_net.specs.declared.cover.Mark.TheVariants.{Zero, One, Any}
use Rattle.vw_net.specs.declared.cover.Row.{Row}

-- the truth tables of six inputs by themselves: bit k of the table of input i is bit i of k
abbrev pub input_tables : List ℕ
input_tables =
    12297829382473034410
    ∷ 14757395258967641292
    ∷ 17361641481138401520
    ∷ 18374966859414961920
    ∷ 18446462603027742720
    ∷ 18446744069414584320
    ∷ []

-- the places at which an input with this truth table has a value that a mark asks for
abbrev pub mark_places : ℕ → Mark → ℕ
mark_places input_table Zero = 2 ^ 64 - 1 - input_table
mark_places input_table One = input_table
mark_places input_table Any = 2 ^ 64 - 1

-- of these places, those at which each mark from an input on matches
abbrev pub row_places : ℕ → ℕ → List Mark → ℕ
row_places places input [] = places
row_places places input (mark ∷ marks) = row_places (bit_and places (mark_places (slice_index_or input_tables input 0) mark)) (input + 1) marks

-- these places, and those at which some row matches
abbrev pub rows_places : ℕ → List Row → ℕ
rows_places places [] = places
rows_places places (row ∷ rows) = rows_places (bit_or places (row_places (2 ^ 64 - 1) 0 row.marks)) rows

-- the places at which a table has the value 1, where it has at most six inputs
abbrev pub truth_table_of : ℕ → Bool → List Row → ℕ
truth_table_of inputs on rows =
    let matched = rows_places 0 rows in
    if nat_le inputs 6 then (if on then matched else 2 ^ 64 - 1 - matched) else 0
