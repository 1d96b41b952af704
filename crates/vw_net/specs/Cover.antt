-- The value of a table. Source: the on-set and the off-set of the Berkeley description.
use Rattle.std.specs.Prelude.{ℕ, Bool, not, List, Option, slice_get, if◌then◌else◌}
use Rattle.std.specs.List.{list_any}
use Rattle.std.specs.Option.{option_and_then}
use Rattle.vw_net.specs.declared.cover.Mark.{Mark}
use Rattle.vw_net.specs.Table.{Table}
use Rattle.vw_net.specs.Mark.{row_matches}

-- `on` where some row matches, the other value where none does
abbrev pub cover_value : Table → List Bool → Bool
cover_value table bits = if list_any (λ row. row_matches row.marks bits) table.rows then table.on else not table.on

-- the mark of a row for an input, by their numbers
abbrev pub mark_at : Table → ℕ → ℕ → Option Mark
mark_at table row input = option_and_then (λ one. slice_get one.marks input) (slice_get table.rows row)
