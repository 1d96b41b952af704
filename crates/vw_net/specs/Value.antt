-- The value of a net, from its driver alone, with nothing kept.
use Rattle.std.specs.Prelude.{ℕ, zero, suc, ◌+◌, ◌-◌, Bool, false, List, length, take, map, slice_get, slice_index_or, Option, Some, None, nat_lt, if◌then◌else◌}
use Rattle.vw_net.specs.declared.cell.Cell.{Cell}
use Rattle.vw_net.specs.declared.cell.Cell.TheVariants.{Gate, Latch}
use Rattle.vw_net.specs.declared.flat.Flat.{Flat}
use Rattle.vw_net.specs.Cover.{cover_value}
use Rattle.vw_net.specs.Cells.{latch_count}

-- the value that a cell gives its net: a gate from the values of the nets that it reads, a latch the bit of its number
abbrev pub driven_value : (ℕ → Bool) → List Bool → ℕ → Option Cell → Bool
driven_value value state number None = false
driven_value value state number (Some (Gate ins cover)) = cover_value cover (map value ins)
driven_value value state number (Some (Latch d init)) = slice_index_or state number false

-- the value of a net under a row and a state, where at most this many drivers are followed in a row
abbrev pub level_value : ℕ → Flat → List Bool → List Bool → ℕ → Bool
level_value zero flat row state net = false
level_value (suc level) flat row state net =
    if nat_lt net flat.inputs then slice_index_or row net false
    else driven_value (level_value level flat row state) state (latch_count (take (net - flat.inputs) flat.cells)) (slice_get flat.cells (net - flat.inputs))

-- the value of a net: one level more than there are cells is enough wherever gates don't read in a circle
unfoldable pub net_value : Flat → List Bool → List Bool → ℕ → Bool
net_value flat row state net = level_value (length flat.cells + 1) flat row state net
