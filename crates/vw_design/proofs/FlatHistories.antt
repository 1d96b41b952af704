-- The history of a design's netlist is that of the design by its paths.
use Rattle.std.proofs.Common.{◌≡◌, ◌+◌, ℕ, Bool, List, [], ◌∷◌, length, map, Some, cond, filter, refl, sym, ◌∙◌, ap, ap₂}
use Rattle.std.specs.List.{AllZip}
use Rattle.vw_net.specs.declared.cell.Cell.{Cell}
use Rattle.vw_net.specs.declared.cell.Cell.TheVariants.{Gate, Latch}
use Rattle.vw_net.specs.declared.flat.Flat.{Flat}
use Rattle.vw_net.specs.Cells.{start_value, start_values, latch_inputs}
use Rattle.vw_net.specs.Value.{level_value, net_value}
use Rattle.vw_net.specs.History.{outputs_at, next_state, outputs_of, states_of, state_after, flat_history}
use Rattle.vw_design.specs.declared.item.Item.{Item}
use Rattle.vw_design.specs.declared.item.Item.TheVariants.{Names, Latch as LatchItem, Sub}
use Rattle.vw_design.specs.declared.design.Design.{Design}
use Rattle.vw_design.specs.Paths.{Word, Path, Net}
use Rattle.vw_design.specs.Preorder.{Site, is_latch_item, cells}
use Rattle.vw_design.specs.Probes.{shown_nets}
use Rattle.vw_design.specs.PathValue.{path_value}
use Rattle.vw_design.specs.PathHistory.{latch_start, latch_next, path_start, path_outputs, path_next, path_outputs_from, path_states_from, path_state_after, path_history_from, path_history}
use Rattle.vw_design.specs.Flattened.{number_of, IsCellOf, IsFlatOf}
use Rattle.vw_design.proofs.FilteredLists.{map_numbered}
use Rattle.vw_design.proofs.FlatValues.{latches_of_cells, levels_agree}
use Rattle.vw_design.proofs.PairedLists.{AllZip-length}

abbrev starting : Bool → List Site → List Bool
starting unknown list = map (λ (s : Site). latch_start unknown s.item) list

abbrev stepping : (Path → Word → Bool) → List Site → List Bool
stepping other list = map (λ (s : Site). latch_next (other s.path) s.item) list

-- what latches start at
starts : (design : Design) (unknown : Bool) (list : List Site) (made : List Cell) → AllZip (λ site cell. IsCellOf design site.path site.item cell) list made
    → start_values unknown made ≡ map (λ (s : Site). latch_start unknown s.item) (filter (λ (s : Site). is_latch_item s.item) list)
starts design unknown [] [] along = refl
starts design unknown [] (cell ∷ made) along = absurd along
starts design unknown (site ∷ list) [] along = absurd along
starts design unknown (site ∷ list) (cell ∷ made) along = by site.item refl cell along.0 (starts design unknown list made along.1) where
  by : (item : Item) → site.item ≡ item → (cell : Cell) → IsCellOf design site.path item cell
      → start_values unknown made ≡ starting unknown (filter (λ (s : Site). is_latch_item s.item) list)
      → start_values unknown (cell ∷ made) ≡ starting unknown (cond (is_latch_item item) (site ∷ filter (λ (s : Site). is_latch_item s.item) list) (filter (λ (s : Site). is_latch_item s.item) list))
  by (Names line ins out cover) is (Gate nets table) of_item rest = rest
  by (Names line ins out cover) is (Latch net start) of_item rest = absurd of_item
  by (LatchItem line d q edge control init) is (Gate nets table) of_item rest = absurd of_item
  by (LatchItem line d q edge control init) is (Latch net start) of_item rest =
      ap₂ (λ (b : Bool) (bs : List Bool). b ∷ bs) (ap (start_value unknown) of_item.1 ∙ sym (ap (latch_start unknown) is)) rest
  by (Sub line model binds) is (Gate nets table) of_item rest = absurd of_item
  by (Sub line model binds) is (Latch net start) of_item rest = absurd of_item

-- what they take next
nexts : (design : Design) (value : ℕ → Bool) (other : Path → Word → Bool)
    → ((path : Path) (name : Word) (net : ℕ) → number_of design path name ≡ Some net → value net ≡ other path name)
    → (list : List Site) (made : List Cell) → AllZip (λ site cell. IsCellOf design site.path site.item cell) list made
    → map value (latch_inputs made) ≡ map (λ (s : Site). latch_next (other s.path) s.item) (filter (λ (s : Site). is_latch_item s.item) list)
nexts design value other agree [] [] along = refl
nexts design value other agree [] (cell ∷ made) along = absurd along
nexts design value other agree (site ∷ list) [] along = absurd along
nexts design value other agree (site ∷ list) (cell ∷ made) along = by site.item refl cell along.0 (nexts design value other agree list made along.1) where
  by : (item : Item) → site.item ≡ item → (cell : Cell) → IsCellOf design site.path item cell
      → map value (latch_inputs made) ≡ stepping other (filter (λ (s : Site). is_latch_item s.item) list)
      → map value (latch_inputs (cell ∷ made)) ≡ stepping other (cond (is_latch_item item) (site ∷ filter (λ (s : Site). is_latch_item s.item) list) (filter (λ (s : Site). is_latch_item s.item) list))
  by (Names line ins out cover) is (Gate nets table) of_item rest = rest
  by (Names line ins out cover) is (Latch net start) of_item rest = absurd of_item
  by (LatchItem line d q edge control init) is (Gate nets table) of_item rest = absurd of_item
  by (LatchItem line d q edge control init) is (Latch net start) of_item rest =
      ap₂ (λ (b : Bool) (bs : List Bool). b ∷ bs) (agree site.path d net of_item.0 ∙ sym (ap (latch_next (other site.path)) is)) rest
  by (Sub line model binds) is (Gate nets table) of_item rest = absurd of_item
  by (Sub line model binds) is (Latch net start) of_item rest = absurd of_item

module _ (design : Design) (watched : List Net) (flat : Flat) (made : IsFlatOf design watched flat) where
  -- the values of numbered nets
  pub values_agree : (row state : List Bool) (path : Path) (name : Word) (net : ℕ) → number_of design path name ≡ Some net
      → net_value flat row state net ≡ path_value design row state path name
  unfolding net_value path_value
  values_agree row state path name net number =
      let same = AllZip-length (λ (s : Site) (cell : Cell). IsCellOf design s.path s.item cell) (cells design) flat.cells made.cells in
      ap (λ (count : ℕ). level_value (count + 1) flat row state net) (sym same) ∙ levels_agree design watched flat made row state (length (cells design) + 1) path name net number

  start_agrees : (unknown : Bool) → start_values unknown flat.cells ≡ path_start unknown design
  start_agrees unknown = starts design unknown (cells design) flat.cells made.cells ∙ ap (map (λ (s : Site). latch_start unknown s.item)) (latches_of_cells design)

  outputs_agree : (row state : List Bool) → outputs_at flat row state ≡ path_outputs design watched row state
  outputs_agree row state =
      map_numbered (λ (net : Net). number_of design net.path net.name) (net_value flat row state) (λ (net : Net). path_value design row state net.path net.name)
      (λ net. values_agree row state net.path net.name) (shown_nets design watched) flat.outputs made.outputs

  next_agrees : (row state : List Bool) → next_state flat row state ≡ path_next design row state
  next_agrees row state =
      nexts design (net_value flat row state) (path_value design row state) (values_agree row state) (cells design) flat.cells made.cells
      ∙ ap (map (λ (s : Site). latch_next (path_value design row state s.path) s.item)) (latches_of_cells design)

  -- from any state
  all_outputs : (state : List Bool) (rows : List (List Bool)) → outputs_of flat state rows ≡ path_outputs_from design watched state rows
  all_outputs state [] = refl
  all_outputs state (row ∷ rows) =
      ap₂ (λ (bits : List Bool) (more : List (List Bool)). bits ∷ more) (outputs_agree row state)
      (ap (λ (next : List Bool). outputs_of flat next rows) (next_agrees row state) ∙ all_outputs (path_next design row state) rows)

  all_states : (state : List Bool) (rows : List (List Bool)) → states_of flat state rows ≡ path_states_from design state rows
  all_states state [] = refl
  all_states state (row ∷ rows) =
      ap (λ (more : List (List Bool)). state ∷ more) (ap (λ (next : List Bool). states_of flat next rows) (next_agrees row state) ∙ all_states (path_next design row state) rows)

  last_state : (state : List Bool) (rows : List (List Bool)) → state_after flat state rows ≡ path_state_after design state rows
  last_state state [] = refl
  last_state state (row ∷ rows) = ap (λ (next : List Bool). state_after flat next rows) (next_agrees row state) ∙ last_state (path_next design row state) rows

  -- what a netlist does from any state on is what its design does
  pub histories_agree_from : (state : List Bool) (rows : List (List Bool)) → flat_history flat state rows ≡ path_history_from design watched state rows
  histories_agree_from state rows = cc (all_outputs state rows, all_states state rows, last_state state rows)

  -- and so from the start values on
  pub histories_agree : (unknown : Bool) (rows : List (List Bool))
      → flat_history flat (start_values unknown flat.cells) rows ≡ path_history design watched unknown rows
  histories_agree unknown rows =
      ap (λ (state : List Bool). flat_history flat state rows) (start_agrees unknown) ∙ histories_agree_from (path_start unknown design) rows
