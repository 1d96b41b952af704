-- Words of 64 lanes, lane by lane.
use Rattle.std.specs.Prelude.{◌≡◌, ◌<◌, ℕ, ◌+◌, ◌-◌, ◌^◌, Bool, false, not, ◌&&◌, ◌||◌, List, [], length, map, nat_lt, slice_get, slice_index_or, Some, IsTrue}
use Rattle.vw_net.specs.declared.cell.Cell.TheVariants.{Gate}
use Rattle.vw_net.specs.declared.cover.Cover.{Cover}
use Rattle.vw_net.specs.declared.flat.Flat.{Flat}
use Rattle.vw_net.specs.Cover.{cover_value}
use Rattle.vw_net.specs.Order.{is_latch, is_ready}
use Rattle.vw_net.specs.TruthTable.{bit_of}
use Rattle.vw_fault.specs.declared.stuck.Stuck.{Stuck}

-- the bits of a lane
abbrev pub lane_bits : ℕ → List ℕ → List Bool
lane_bits lane words = map (λ word. bit_of word lane) words

-- those of these nets
abbrev pub bits_at : ℕ → List ℕ → List ℕ → List Bool
bits_at lane words nets = map (λ net. bit_of (slice_index_or words net 0) lane) nets

-- what readers find of a net in a lane
abbrev pub find_in : Stuck → ℕ → ℕ → Bool → Bool
find_in stuck lane net bit = (bit && bit_of (slice_index_or stuck.kept net (2 ^ 64 - 1)) lane) || bit_of (slice_index_or stuck.forced net 0) lane

-- whether a net is an input, or driven by no latch
abbrev pub is_no_latch_net : Flat → ℕ → Bool
is_no_latch_net flat net = nat_lt net flat.inputs || not (is_latch (slice_get flat.cells (net - flat.inputs)))

-- after the gates have run, a net has in each lane any value that agrees with what was there and with what is found of the gates
abbrev pub SettlesLanes : Flat → Stuck → List ℕ → List ℕ → Type 0
SettlesLanes flat stuck old new =
    (lane : ℕ) → lane < 64 → (value : ℕ → Bool)
    → ((net : ℕ) → IsTrue (is_ready flat.inputs flat.cells [] net) → slice_index_or (lane_bits lane old) net false ≡ value net)
    → ((number : ℕ) (ins : List ℕ) (cover : Cover) → slice_get flat.cells number ≡ Some (Gate ins cover) → value (flat.inputs + number) ≡ find_in stuck lane (flat.inputs + number) (cover_value cover (map value ins)))
    → (net : ℕ) → net < length new → slice_index_or (lane_bits lane new) net false ≡ value net
