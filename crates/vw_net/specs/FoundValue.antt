-- The values of nets where their readers may find another bit of a net than the one that it has.
use Rattle.std.specs.Prelude.{ℕ, zero, suc, ◌+◌, ◌-◌, Bool, false, List, length, take, slice_get, slice_index_or, nat_lt, if◌then◌else◌}
use Rattle.vw_net.specs.declared.flat.Flat.{Flat}
use Rattle.vw_net.specs.Cells.{latch_count}
use Rattle.vw_net.specs.Value.{driven_value}

-- what is found of a net under a row and a state, where at most this many drivers are followed in a row; `find` says what is
-- found of a net that has a bit
abbrev pub found_level : (ℕ → Bool → Bool) → ℕ → Flat → List Bool → List Bool → ℕ → Bool
found_level find zero flat row state net = false
found_level find (suc level) flat row state net =
    find net (
    if nat_lt net flat.inputs then slice_index_or row net false
    else driven_value (found_level find level flat row state) state (latch_count (take (net - flat.inputs) flat.cells)) (slice_get flat.cells (net - flat.inputs)))

-- what is found of a net
unfoldable pub found_value : (ℕ → Bool → Bool) → Flat → List Bool → List Bool → ℕ → Bool
found_value find flat row state net = found_level find (length flat.cells + 1) flat row state net

-- each net is found as it is
abbrev pub as_it_is : ℕ → Bool → Bool
as_it_is net bit = bit
