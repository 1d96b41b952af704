-- What a netlist does, clock by clock, where readers may find another bit of a net than the one that it has.
use Rattle.std.specs.Prelude.{ℕ, Bool, List, [], ◌∷◌, map}
use Rattle.vw_net.specs.declared.flat.Flat.{Flat}
use Rattle.vw_net.specs.Cells.{latch_inputs}
use Rattle.vw_net.specs.FoundValue.{found_value}

-- the outputs of a clock: what is found of their nets
abbrev pub found_outputs_at : (ℕ → Bool → Bool) → Flat → List Bool → List Bool → List Bool
found_outputs_at find flat row state = map (found_value find flat row state) flat.outputs

-- the state after a clock: each latch stores what it finds of its input
abbrev pub found_next_state : (ℕ → Bool → Bool) → Flat → List Bool → List Bool → List Bool
found_next_state find flat row state = map (found_value find flat row state) (latch_inputs flat.cells)

-- the outputs of each clock of a list of rows from any state
abbrev pub found_outputs : (ℕ → Bool → Bool) → Flat → List Bool → List (List Bool) → List (List Bool)
found_outputs find flat state [] = []
found_outputs find flat state (row ∷ rows) = found_outputs_at find flat row state ∷ found_outputs find flat (found_next_state find flat row state) rows
