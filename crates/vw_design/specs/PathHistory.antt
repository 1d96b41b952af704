-- What a design does, clock by clock, by its paths. Some of its nets may be watched.
use Rattle.std.specs.Prelude.{Bool, false, List, [], ◌∷◌, map}
use Rattle.vw_net.specs.Cells.{start_value}
use Rattle.vw_net.specs.History.{History}
use Rattle.vw_design.specs.declared.item.Item.{Item}
use Rattle.vw_design.specs.declared.item.Item.TheVariants.{Names, Latch, Sub}
use Rattle.vw_design.specs.declared.design.Design.{Design}
use Rattle.vw_design.specs.Paths.{Word, Net}
use Rattle.vw_design.specs.Preorder.{latches}
use Rattle.vw_design.specs.Probes.{shown_nets}
use Rattle.vw_design.specs.PathValue.{path_value}

-- what a latch starts at, `unknown` where its initial value is free
abbrev pub latch_start : Bool → Item → Bool
latch_start unknown (Names line ins out cover) = false
latch_start unknown (Latch line d q edge control init) = start_value unknown init
latch_start unknown (Sub line model binds) = false

-- what a latch takes next: the value of its data input
abbrev pub latch_next : (Word → Bool) → Item → Bool
latch_next value (Names line ins out cover) = false
latch_next value (Latch line d q edge control init) = value d
latch_next value (Sub line model binds) = false

-- the state before the first clock: a bit for each latch, in preorder
abbrev pub path_start : Bool → Design → List Bool
path_start unknown design = map (λ site. latch_start unknown site.item) (latches design)

-- the outputs of a clock and then the watched nets, under its row and the state before its step
abbrev pub path_outputs : Design → List Net → List Bool → List Bool → List Bool
path_outputs design watched row state = map (λ net. path_value design row state net.path net.name) (shown_nets design watched)

-- the state after a clock; all latches step together
abbrev pub path_next : Design → List Bool → List Bool → List Bool
path_next design row state = map (λ site. latch_next (path_value design row state site.path) site.item) (latches design)

-- for a list of rows from a state: the outputs and watched nets of each clock, the state before each step, and the state
-- after the last
abbrev pub path_outputs_from : Design → List Net → List Bool → List (List Bool) → List (List Bool)
path_outputs_from design watched state [] = []
path_outputs_from design watched state (row ∷ rows) = path_outputs design watched row state ∷ path_outputs_from design watched (path_next design row state) rows

-- the latch values in each clock, from these values on
abbrev pub path_states_from : Design → List Bool → List (List Bool) → List (List Bool)
path_states_from design state [] = []
path_states_from design state (row ∷ rows) = state ∷ path_states_from design (path_next design row state) rows

-- the latch values behind the last clock
abbrev pub path_state_after : Design → List Bool → List (List Bool) → List Bool
path_state_after design state [] = state
path_state_after design state (row ∷ rows) = path_state_after design (path_next design row state) rows

-- what a design does over rows from these latch values on, where nets are watched
abbrev pub path_history_from : Design → List Net → List Bool → List (List Bool) → History
path_history_from design watched state rows = record {
  outputs = path_outputs_from design watched state rows;
  states = path_states_from design state rows;
  last = path_state_after design state rows;
}

-- the history of a design with watched nets under a list of rows
abbrev pub path_history : Design → List Net → Bool → List (List Bool) → History
path_history design watched unknown rows = path_history_from design watched (path_start unknown design) rows
