-- The formals of an instance: the ways from them, and their actuals.
use Rattle.std.proofs.Common.{◌≡◌, ◌<◌, not, ℕ, true, List, [], ◌∷◌, ◌++◌, map, Option, Some, None, option_map, option_and_then, slice_get, ⊎_elim, refl, sym, ◌∙◌, ap, ap₂, subst}
use Rattle.std.specs.Option.{unwrap_or}
use Rattle.std.proofs.lemmas.Bool.{or_cases, not-false}
use Rattle.std.proofs.lemmas.Option.{none-some, slice_get_within, get_or_from_slice_get}
use Rattle.vw_design.specs.declared.item.Bind.{Bind}
use Rattle.vw_design.specs.declared.item.Item.{Item}
use Rattle.vw_design.specs.declared.item.Item.TheVariants.{Sub}
use Rattle.vw_design.specs.declared.model.Model.{Model}
use Rattle.vw_design.specs.declared.design.Design.{Design}
use Rattle.vw_design.specs.Accepted.{HasNoModelFault}
use Rattle.vw_design.specs.Distinct.{has_name, are_distinct}
use Rattle.vw_design.specs.Shape.{has_its_shape, IsWellMade}
use Rattle.vw_design.specs.ModelFaults.{NameAt, at_model, unbound_input_in}
use Rattle.vw_design.specs.Paths.{Word, Path, Placing, placing_at, model_placed, model_named, model_at, is_port}
use Rattle.vw_design.specs.Preorder.{instances}
use Rattle.vw_design.proofs.ListElements.{Has, Has-at, Has-left, Has-right, from-map, all-Has, none-find}
use Rattle.vw_design.proofs.Names.{Has-has_name}
use Rattle.vw_design.proofs.ListedInstances.{placing_of_placed}
use Rattle.vw_design.proofs.ShallowDesigns.{faultless_shallow, nothing_placed}
use Rattle.vw_drivers.specs.Firsts.{First}
use Rattle.vw_instances.specs.declared.tables.ListedInstance.{ListedInstance}
use Rattle.vw_drivers.specs.declared.model_names.PlacedNames.{PlacedNames}
use Rattle.vw_drivers.specs.Names.{way_of}
use Rattle.vw_drivers.specs.declared.tables.Tables.{Tables}
use Rattle.vw_drivers.specs.Tables.{AreDesignTables, instance_firsts}
use Rattle.vw_drivers.specs.Steps.FoundDrivers.{placed_of, ways_of}
use Rattle.vw_drivers.proofs.InstanceTables.{instance_of, placed_is}

-- the item that places an instance
pub record IsPlacing (design : Design) (tables : Tables) (number place : ℕ) (path : Path) : Type 0 where
  pub entry : ListedInstance
  pub at : slice_get tables.instances number ≡ Some entry
  pub model : Model
  pub stands : model_at design (place ∷ path) ≡ Some model
  pub parent_listed : slice_get (instances design) entry.parent ≡ Some path
  pub parent_before : entry.parent < number
  pub parent : Model
  pub parent_stands : model_at design path ≡ Some parent
  pub line : ℕ
  pub placing : Placing
  pub placing_is : placing_at parent.items place ≡ Some placing
  pub item_has : Has (Sub line placing.model placing.binds) parent.items
  pub model_is : model_named design.models placing.model ≡ Some model
  pub distinct : are_distinct (map (λ bind. bind.formal) placing.binds) ≡ true
  pub ways : ways_of tables entry ≡ map (way_of (instance_firsts tables entry.parent) (instance_firsts tables number)) placing.binds

-- a formal that isn't bound
abbrev name_at_line : ℕ → Word → NameAt
name_at_line line name = record { line = line; name = name }

module _ (design : Design) (faultless : HasNoModelFault design) (tables : Tables) (are : AreDesignTables design tables) where
  pub placing_of : (number place : ℕ) (path : Path) → slice_get (instances design) number ≡ Some (place ∷ path) → IsPlacing design tables number place path
  placing_of number place path listed =
      let here = instance_of design faultless tables are number (place ∷ path) listed in
      let by = here.is.by in
      let above = instance_of design faultless tables are here.entry.parent path by.1 in
      let stands : model_placed design place above.is.model ≡ Some here.is.model = ap (option_and_then (model_placed design place)) (sym above.is.stands) ∙ here.is.stands in
      let placing = placing_of_placed design place above.is.model here.is.model stands in
      let placed = placed_is design faultless tables are here.entry.parent path by.1 above placing.0 placing.1 placing.3 in
      let sub : Item = Sub placed.is.line placing.1.model placing.1.binds in
      let has : Has sub above.is.model.items = Has-at sub above.is.model.items placed.placed.item placed.is.item_is in
      let well : IsWellMade above.is.model =
      subst IsWellMade (get_or_from_slice_get design.models above.entry.model above.is.model above.is.model above.is.model_is)
      (design.well_made above.entry.model above.is.model (slice_get_within design.models above.entry.model above.is.model above.is.model_is)) in
      let ways : ways_of tables here.entry ≡ placed.placed.ways =
      ap (λ (found : Option ListedInstance). unwrap_or (option_map (λ (p : PlacedNames). p.ways) (option_and_then (λ (e : ListedInstance). placed_of tables e.model here.entry.place) found)) []) above.at
      ∙ ap (λ (n : ℕ). unwrap_or (option_map (λ (p : PlacedNames). p.ways) (placed_of tables above.entry.model n)) []) (by.0 ∙ placing.2)
      ∙ ap (λ (found : Option PlacedNames). unwrap_or (option_map (λ (p : PlacedNames). p.ways) found) []) placed.at in
      record {
        entry = here.entry;
        at = here.at;
        model = here.is.model;
        stands = here.is.stands;
        parent_listed = by.1;
        parent_before = by.2;
        parent = above.is.model;
        parent_stands = above.is.stands;
        line = placed.is.line;
        placing = placing.1;
        placing_is = ap (placing_at above.is.model.items) placing.2 ∙ placing.3;
        item_has = has;
        model_is = placing.4;
        distinct = all-Has has_its_shape sub above.is.model.items well.items has;
        ways = ways ∙ placed.is.ways here.entry.model (here.is.model_is ∙ sym placing.4)
            ∙ ap₂ (λ (own other : List First). map (way_of own other) placing.1.binds) (sym above.own_firsts) (sym here.own_firsts);
      }

  -- each port of the model is bound
  pub bound_port : (number place : ℕ) (path : Path) (is : IsPlacing design tables number place path) (name : Word) → is_port is.model name ≡ true
      → (bind : Bind) × Has bind is.placing.binds × (bind.formal ≡ name)
  bound_port number place path is name port =
      let binds = is.placing.binds in
      let formals = map (λ (bind : Bind). bind.formal) binds in
      let search = λ (line : ℕ) (placed : Word) (bs : List Bind). option_map (name_at_line line) (at_model design (λ (m : Model). unbound_input_in m bs) placed) in
      let nothing = nothing_placed design (faultless_shallow design faultless) search faultless.inputs_bound path is.parent is.parent_stands is.line is.placing.model binds is.item_has in
      let none : unbound_input_in is.model binds ≡ None =
      no_name is.line (unbound_input_in is.model binds)
      (ap (λ (m : Option Model). option_map (name_at_line is.line) (option_and_then (λ (m : Model). unbound_input_in m binds) m)) (sym is.model_is) ∙ nothing) in
      let among : Has name (is.model.inputs ++ is.model.clocks) =
      ⊎_elim (λ input. Has-left name is.model.inputs is.model.clocks (Has-has_name is.model.inputs name input))
      (λ clock. Has-right name is.model.inputs is.model.clocks (Has-has_name is.model.clocks name clock)) (or_cases (has_name is.model.inputs name) (has_name is.model.clocks name) port) in
      let bound : has_name formals name ≡ true = not-false (has_name formals name) (none-find (λ (formal : Word). not (has_name formals formal)) name (is.model.inputs ++ is.model.clocks) none among) in
      from-map (λ (bind : Bind). bind.formal) name binds (Has-has_name formals name bound)
    where
      no_name : (line : ℕ) (found : Option Word) → option_map (name_at_line line) found ≡ None → found ≡ None
      no_name line None is = refl
      no_name line (Some formal) is = absurd (none-some (name_at_line line formal) (sym is))
