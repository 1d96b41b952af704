-- The values of nets within a clock, as a list with a bit for each net.
use Rattle.std.specs.Prelude.{◌≡◌, ◌<◌, ◌+◌, ℕ, ◌-◌, Bool, false, not, ◌||◌, List, [], length, map, nat_lt, slice_get, slice_index_or, Some, IsTrue}
use Rattle.vw_net.specs.declared.cell.Cell.TheVariants.{Gate}
use Rattle.vw_net.specs.declared.cover.Cover.{Cover}
use Rattle.vw_net.specs.declared.flat.Flat.{Flat}
use Rattle.vw_net.specs.Cover.{cover_value}
use Rattle.vw_net.specs.Order.{is_latch, is_ready}

-- the bits of these nets
abbrev pub bits_at : List Bool → List ℕ → List Bool
bits_at values nets = map (λ net. slice_index_or values net false) nets

-- whether a net is an input, or driven by no latch
abbrev pub is_no_latch_net : Flat → ℕ → Bool
is_no_latch_net flat net = nat_lt net flat.inputs || not (is_latch (slice_get flat.cells (net - flat.inputs)))

-- after the gates have run, a net has any value that agrees with what was there and with the tables of the gates
abbrev pub SettlesGates : Flat → List Bool → List Bool → Type 0
SettlesGates flat old new =
    (value : ℕ → Bool) → ((net : ℕ) → IsTrue (is_ready flat.inputs flat.cells [] net) → slice_index_or old net false ≡ value net)
    → ((number : ℕ) (ins : List ℕ) (cover : Cover) → slice_get flat.cells number ≡ Some (Gate ins cover) → value (flat.inputs + number) ≡ cover_value cover (map value ins))
    → (net : ℕ) → net < length new → slice_index_or new net false ≡ value net
