-- What a netlist does, clock by clock.
use Rattle.std.specs.Prelude.{Bool, List, [], ◌∷◌, ◌++◌, map}
use Rattle.vw_net.specs.declared.flat.Flat.{Flat}
use Rattle.vw_net.specs.Cells.{latch_inputs}
use Rattle.vw_net.specs.Value.{net_value}

-- the outputs of a clock, under its row and the state before its step
abbrev pub outputs_at : Flat → List Bool → List Bool → List Bool
outputs_at flat row state = map (net_value flat row state) flat.outputs

-- the state after a clock: each latch takes the value that its input has under this row and this state
abbrev pub next_state : Flat → List Bool → List Bool → List Bool
next_state flat row state = map (net_value flat row state) (latch_inputs flat.cells)

-- for a list of rows, the outputs of each clock, the state before each step, and the state after the last
pub record History : Type 0 where
  pub outputs : List (List Bool)
  pub states : List (List Bool)
  pub last : List Bool

abbrev pub outputs_of : Flat → List Bool → List (List Bool) → List (List Bool)
outputs_of flat state [] = []
outputs_of flat state (row ∷ rows) = outputs_at flat row state ∷ outputs_of flat (next_state flat row state) rows

abbrev pub states_of : Flat → List Bool → List (List Bool) → List (List Bool)
states_of flat state [] = []
states_of flat state (row ∷ rows) = state ∷ states_of flat (next_state flat row state) rows

abbrev pub state_after : Flat → List Bool → List (List Bool) → List Bool
state_after flat state [] = state
state_after flat state (row ∷ rows) = state_after flat (next_state flat row state) rows

-- the history of a list of rows from any state
abbrev pub flat_history : Flat → List Bool → List (List Bool) → History
flat_history flat state rows = record { outputs = outputs_of flat state rows; states = states_of flat state rows; last = state_after flat state rows }

-- one history, and then another from the state after it
abbrev pub joined : History → History → History
joined first second = record { outputs = first.outputs ++ second.outputs; states = first.states ++ second.states; last = second.last }
