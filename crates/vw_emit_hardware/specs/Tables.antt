-- The tables of an emitted board. Source: this project; the value of a table is that of the Berkeley description of BLIF.
use Rattle.std.specs.Prelude.{ℕ, Bool, true, false, not, List, [], ◌∷◌, map, replicate, if◌then◌else◌}
use Rattle.std.specs.List.{list_any}
use Rattle.vw_net.specs.Mark.{row_matches}
use Rattle.vw_net.specs.declared.cover.Cover.{Cover}
use Rattle.vw_net.specs.declared.cover.Mark.{Mark}
use Rattle.vw_net.specs.declared.cover.Mark.TheVariants.{Zero, One, Any}
use Rattle.vw_net.specs.declared.cover.Row.{Row}
use Rattle.vw_emit_hardware.specs.Locals.{Local, LocalItem, table}

-- the value of a table: `on` where a row matches, the other value where none does
abbrev pub table_value : Bool → List (List Mark) → List Bool → Bool
table_value on rows bits = if list_any (λ marks. row_matches marks bits) rows then on else not on

-- ---- tables with few inputs

-- the bit itself
abbrev pub pass : List (List Mark)
pass = (One ∷ []) ∷ []

-- both of two bits
abbrev pub both : List (List Mark)
both = (One ∷ One ∷ []) ∷ []

-- where the first bit is 1 the second, else the third
abbrev pub choice : List (List Mark)
choice = (One ∷ One ∷ Any ∷ []) ∷ (Zero ∷ Any ∷ One ∷ []) ∷ []

-- both of the first two bits, or the third
abbrev pub both_or : List (List Mark)
both_or = (One ∷ One ∷ Any ∷ []) ∷ (Any ∷ Any ∷ One ∷ []) ∷ []

-- ---- the table of a gate

abbrev pub cover_marks : List Row → List (List Mark)
cover_marks rows = map (λ row. row.marks) rows

-- one with an off-set; without rows it is always 1, and has one row that any bits match
abbrev pub off_table : List Local → Local → ℕ → List Row → LocalItem
off_table ins out inputs [] = table ins out true (replicate inputs Any ∷ [])
off_table ins out inputs (row ∷ rows) = table ins out false (cover_marks (row ∷ rows))

-- over these nets, by a cover
abbrev pub cover_table : List Local → Local → Cover → LocalItem
cover_table ins out cover =
    if cover.on then table ins out true (cover_marks cover.rows) else off_table ins out cover.inputs cover.rows
