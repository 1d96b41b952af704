-- What a design does over some rows and then more.
use Rattle.std.proofs.Common.{◌≡◌, suc, Bool, List, [], ◌∷◌, ◌++◌, length, refl, ap}
use Rattle.std.proofs.lemmas.List.{length-map}
use Rattle.vw_net.specs.History.{joined}
use Rattle.vw_design.specs.declared.design.Design.{Design}
use Rattle.vw_design.specs.Paths.{Net}
use Rattle.vw_design.specs.Preorder.{Site, latches}
use Rattle.vw_design.specs.PathValue.{path_value}
use Rattle.vw_design.specs.PathHistory.{latch_next, latch_start, path_next, path_outputs, path_start, path_outputs_from, path_states_from, path_state_after, path_history_from}

module _ (design : Design) where
  outputs_join : (watched : List Net) (state : List Bool) (rows more : List (List Bool))
      → path_outputs_from design watched state (rows ++ more) ≡ path_outputs_from design watched state rows ++ path_outputs_from design watched (path_state_after design state rows) more
  outputs_join watched state [] more = refl
  outputs_join watched state (row ∷ rows) more = ap (λ (list : List (List Bool)). path_outputs design watched row state ∷ list) (outputs_join watched (path_next design row state) rows more)

  states_join : (state : List Bool) (rows more : List (List Bool))
      → path_states_from design state (rows ++ more) ≡ path_states_from design state rows ++ path_states_from design (path_state_after design state rows) more
  states_join state [] more = refl
  states_join state (row ∷ rows) more = ap (λ (list : List (List Bool)). state ∷ list) (states_join (path_next design row state) rows more)

  last_joins : (state : List Bool) (rows more : List (List Bool)) → path_state_after design state (rows ++ more) ≡ path_state_after design (path_state_after design state rows) more
  last_joins state [] more = refl
  last_joins state (row ∷ rows) more = last_joins (path_next design row state) rows more

  -- its history is that of the first, and then that of the others from the state behind the first
  pub path_histories_join : (watched : List Net) (state : List Bool) (rows more : List (List Bool))
      → path_history_from design watched state (rows ++ more) ≡ joined (path_history_from design watched state rows) (path_history_from design watched (path_state_after design state rows) more)
  path_histories_join watched state rows more =
      λ i. record { outputs = outputs_join watched state rows more i; states = states_join state rows more i; last = last_joins state rows more i }

  -- ---- lengths

  pub path_outputs_counted : (watched : List Net) (state : List Bool) (rows : List (List Bool)) → length (path_outputs_from design watched state rows) ≡ length rows
  path_outputs_counted watched state [] = refl
  path_outputs_counted watched state (row ∷ rows) = ap suc (path_outputs_counted watched (path_next design row state) rows)

  pub path_states_counted : (state : List Bool) (rows : List (List Bool)) → length (path_states_from design state rows) ≡ length rows
  path_states_counted state [] = refl
  path_states_counted state (row ∷ rows) = ap suc (path_states_counted (path_next design row state) rows)

  -- a state has a bit for each latch
  pub path_state_counted : (state : List Bool) (rows : List (List Bool)) → length state ≡ length (latches design) → length (path_state_after design state rows) ≡ length (latches design)
  path_state_counted state [] same = same
  path_state_counted state (row ∷ rows) same =
      path_state_counted (path_next design row state) rows (length-map (latches design) (λ (site : Site). latch_next (path_value design row state site.path) site.item))

  pub path_start_counted : (unknown : Bool) → length (path_start unknown design) ≡ length (latches design)
  path_start_counted unknown = length-map (latches design) (λ (site : Site). latch_start unknown site.item)
