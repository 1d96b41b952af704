-- A clock among others.
use Rattle.std.proofs.Common.{◌≡◌, ◌<◌, ◌+◌, ℕ, Bool, List, [], ◌∷◌, ◌++◌, length, take, drop, set, get_or, map, ap, sym, ◌∙◌, append_assoc}
use Rattle.std.proofs.lemmas.List.{take_more_set, at_drop_more}
use Rattle.std.proofs.lemmas.List.Elements.{All-weaker}
use Rattle.vw_net.specs.declared.flat.Flat.{Flat}
use Rattle.vw_net.specs.Value.{net_value}
use Rattle.vw_net.specs.History.{outputs_at, next_state, outputs_of, states_of, state_after}
use Rattle.vw_net.proofs.DrivenValues.{map_agree}

-- the outputs, from what gives each net its value
pub outputs_at-from_values : (flat : Flat) (row state : List Bool) (value : ℕ → Bool) → ((net : ℕ) → net < flat.inputs + length flat.cells → value net ≡ net_value flat row state net) → map value flat.outputs ≡ outputs_at flat row state
outputs_at-from_values flat row state value have =
    let nets = flat.inputs + length flat.cells in
    map_agree value (net_value flat row state) flat.outputs (All-weaker (λ net. net < nets) (λ net. value net ≡ net_value flat row state net) have flat.outputs flat.outputs_fit)

-- one more written over
pub written_more : {X : Type 0} (written : List X) (i : ℕ) (y : X) (rest later whole : List X) → i < length written → rest ≡ y ∷ later → take i written ++ rest ≡ whole → take (i + 1) (set written i y) ++ later ≡ whole
written_more written i y rest later whole within next so_far =
    ap (λ front. front ++ later) (take_more_set written i y within) ∙ append_assoc (take i written) (y ∷ []) later
    ∙ ap (λ r. take i written ++ r) (sym next) ∙ so_far

-- the clock of the row at a place, which stands before those of the rows behind it
module _ (flat : Flat) (state row : List Bool) (rows : List (List Bool)) (i : ℕ) (within : i < length rows) (is : row ≡ get_or rows i row) where
  pub outputs_of-drop : outputs_of flat state (drop i rows) ≡ outputs_at flat row state ∷ outputs_of flat (next_state flat row state) (drop (i + 1) rows)
  outputs_of-drop = at_drop_more (outputs_of flat state) rows i row within ∙ ap (λ r. outputs_of flat state (r ∷ drop (i + 1) rows)) (sym is)

  pub states_of-drop : states_of flat state (drop i rows) ≡ state ∷ states_of flat (next_state flat row state) (drop (i + 1) rows)
  states_of-drop = at_drop_more (states_of flat state) rows i row within ∙ ap (λ r. states_of flat state (r ∷ drop (i + 1) rows)) (sym is)

  pub state_after-drop : state_after flat state (drop i rows) ≡ state_after flat (next_state flat row state) (drop (i + 1) rows)
  state_after-drop = at_drop_more (state_after flat state) rows i row within ∙ ap (λ r. state_after flat state (r ∷ drop (i + 1) rows)) (sym is)
