-- The history of a design clock by clock: what a clock shows follows from its row and from the state after the rows
-- before it, and so does the next state.
use Rattle.std.proofs.Common.{◌≡◌, ℕ, zero, suc, Bool, List, [], ◌∷◌, take, Some, slice_get, option_map, refl, ◌∙◌, ap}
use Rattle.std.proofs.lemmas.Option.{same_Some, none-some}
use Rattle.vw_design.specs.declared.design.Design.{Design}
use Rattle.vw_design.specs.Paths.{Net}
use Rattle.vw_design.specs.PathHistory.{path_start, path_outputs, path_next, path_outputs_from, path_states_from, path_state_after, path_history}

-- the state before a clock, which is that after the rows before it
abbrev pub state_before : Design → List Bool → List (List Bool) → ℕ → List Bool
state_before design state rows clock = path_state_after design state (take clock rows)

module _ (design : Design) where
  -- after a clock's row the state is the next one
  pub state_next : (state : List Bool) (rows : List (List Bool)) (clock : ℕ) (row : List Bool) → slice_get rows clock ≡ Some row
      → state_before design state rows (suc clock) ≡ path_next design row (state_before design state rows clock)
  state_next state [] clock row at = absurd (none-some row at)
  state_next state (first ∷ rows) zero row at = ap (λ (r : List Bool). path_next design r state) (same_Some first row at)
  state_next state (first ∷ rows) (suc clock) row at = state_next (path_next design first state) rows clock row at

  -- from a state, each row has its outputs under the state before it
  pub outputs_at : (watched : List Net) (state : List Bool) (rows : List (List Bool)) (clock : ℕ)
      → slice_get (path_outputs_from design watched state rows) clock ≡ option_map (λ row. path_outputs design watched row (state_before design state rows clock)) (slice_get rows clock)
  outputs_at watched state [] clock = refl
  outputs_at watched state (row ∷ rows) zero = refl
  outputs_at watched state (row ∷ rows) (suc clock) = outputs_at watched (path_next design row state) rows clock

  -- and that state stands among the states
  pub states_at : (state : List Bool) (rows : List (List Bool)) (clock : ℕ)
      → slice_get (path_states_from design state rows) clock ≡ option_map (λ row. state_before design state rows clock) (slice_get rows clock)
  states_at state [] clock = refl
  states_at state (row ∷ rows) zero = refl
  states_at state (row ∷ rows) (suc clock) = states_at (path_next design row state) rows clock

  -- so it is in the history of the design
  pub outputs_at_clock : (watched : List Net) (unknown : Bool) (rows : List (List Bool)) (clock : ℕ) (row : List Bool) → slice_get rows clock ≡ Some row
      → slice_get ((path_history design watched unknown rows).outputs) clock ≡ Some (path_outputs design watched row (state_before design (path_start unknown design) rows clock))
  outputs_at_clock watched unknown rows clock row at =
      outputs_at watched (path_start unknown design) rows clock
      ∙ ap (option_map (λ (r : List Bool). path_outputs design watched r (state_before design (path_start unknown design) rows clock))) at

  -- and the state before each step
  pub state_at_clock : (watched : List Net) (unknown : Bool) (rows : List (List Bool)) (clock : ℕ) (row : List Bool) → slice_get rows clock ≡ Some row
      → slice_get ((path_history design watched unknown rows).states) clock ≡ Some (state_before design (path_start unknown design) rows clock)
  state_at_clock watched unknown rows clock row at =
      states_at (path_start unknown design) rows clock ∙ ap (option_map (λ (r : List Bool). state_before design (path_start unknown design) rows clock)) at
