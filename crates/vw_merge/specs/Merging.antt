-- A merged netlist as it is put together.
use Rattle.std.specs.Prelude.{◌≡◌, ◌<◌, ◌+◌, ℕ, zero, suc, Bool, true, false, List, [], ◌∷◌, length, map, slice_get, slice_index_or, Option, Some, None}
use Rattle.std.specs.List.{All}
use Rattle.vw_net.specs.declared.cell.Cell.{Cell}
use Rattle.vw_net.specs.declared.cell.Cell.TheVariants.{Gate, Latch}
use Rattle.vw_net.specs.declared.cover.Cover.{Cover}
use Rattle.vw_net.specs.declared.flat.Flat.{Flat}
use Rattle.vw_net.specs.Cells.{latch_count, latch_inputs, start_values}
use Rattle.vw_net.specs.Cover.{cover_value}
use Rattle.vw_net.specs.Order.{is_gate, is_latch}
use Rattle.vw_net.specs.Value.{net_value}
use Rattle.vw_merge.specs.declared.merging.Merging.{Merging}

-- values that nets have in a clock: inputs from the row, then latches from the state, and then tables by what they read
pub record AreSettled (inputs latches : ℕ) (gates : List Cell) (row state : List Bool) (value : ℕ → Bool) : Type 0 where
  pub of_inputs : (net : ℕ) → net < inputs → value net ≡ slice_index_or row net false
  pub of_latches : (number : ℕ) → number < latches → value (inputs + number) ≡ slice_index_or state number false
  pub of_gates : (place : ℕ) (ins : List ℕ) (cover : Cover) → slice_get gates place ≡ Some (Gate ins cover) → value (inputs + latches + place) ≡ cover_value cover (map value ins)

-- wherever a net leads to another, that has its value
abbrev pub SameThere : List (Option ℕ) → (ℕ → Bool) → (ℕ → Bool) → Type 0
SameThere to value other = (net new : ℕ) → slice_get to net ≡ Some (Some new) → value new ≡ other net

-- whatever the clock, with inputs, latches and these tables a net has the value of each net of a netlist that leads to it
abbrev pub Carries : Flat → List Cell → List (Option ℕ) → Type 0
Carries flat gates to =
    (row state : List Bool) (value : ℕ → Bool) → AreSettled flat.inputs (latch_count flat.cells) gates row state value
    → SameThere to value (net_value flat row state)

-- the tables so far of a netlist are gates, stand behind its inputs and latches, and carry its values
pub record IsMerging (flat : Flat) (merging : Merging) : Type 0 where
  pub first : merging.first ≡ flat.inputs + latch_count flat.cells
  pub gates : All (λ cell. is_gate (Some cell) ≡ true) merging.gates.items
  pub carries : Carries flat merging.gates.items merging.to.items

-- latches in the place of those among some cells, each of which takes a net with the same value
pub record AreLatchesOf (cells : List Cell) (to : List (Option ℕ)) (latches : List Cell) : Type 0 where
  pub all : All (λ cell. is_latch (Some cell) ≡ true) latches
  pub count : length latches ≡ latch_count cells
  pub starts : (unknown : Bool) → start_values unknown latches ≡ start_values unknown cells
  pub taken : (value other : ℕ → Bool) → SameThere to value other → map value (latch_inputs latches) ≡ map other (latch_inputs cells)

-- where so many inputs lead before there are tables, from this one on: each to itself
abbrev pub input_starts : ℕ → ℕ → List (Option ℕ)
input_starts first zero = []
input_starts first (suc count) = Some first ∷ input_starts (suc first) count

-- where cells lead before there are tables: each latch to the next net, and a gate nowhere
abbrev pub latch_starts : ℕ → List Cell → List (Option ℕ)
latch_starts next [] = []
latch_starts next (Gate ins cover ∷ cells) = None ∷ latch_starts next cells
latch_starts next (Latch d init ∷ cells) = Some next ∷ latch_starts (next + 1) cells
