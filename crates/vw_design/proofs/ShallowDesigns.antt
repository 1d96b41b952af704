-- In a design without a fault of models no instance is too deep, and an output of a placed model is no port of it.
use Rattle.std.proofs.Common.{◌≡◌, ◌<◌, ◌≤◌, ℕ, true, false, List, [], ◌∷◌, length, map, Option, Some, None, option_and_then, option_map, find, ⊎_elim, refl, sym, ◌∙◌, ap, subst, arith}
use Rattle.std.specs.Str.{bytes_eq}
use Rattle.std.proofs.lemmas.Bool.{cases_lt}
use Rattle.std.proofs.lemmas.Option.{none-some}
use Rattle.vw_design.specs.declared.item.Bind.{Bind}
use Rattle.vw_design.specs.declared.item.Item.{Item}
use Rattle.vw_design.specs.declared.item.Item.TheVariants.{Sub}
use Rattle.vw_design.specs.declared.model.Model.{Model}
use Rattle.vw_design.specs.declared.design.Design.{Design}
use Rattle.vw_design.specs.Distinct.{has_name}
use Rattle.vw_net.specs.FirstFound.{first_found}
use Rattle.vw_net.specs.Lists.{greatest}
use Rattle.vw_design.specs.Paths.{Word, Path, model_placed, model_at, is_port}
use Rattle.vw_design.specs.Preorder.{instances}
use Rattle.vw_design.specs.ModelFaults.{NameOf, has_model_name, is_reached, reached, by_placing, first_placing, at_model, port_both_ways}
use Rattle.vw_design.specs.Limits.{depth_at, greatest_depth}
use Rattle.vw_design.specs.Accepted.{HasNoModelFault}
use Rattle.vw_design.proofs.ListElements.{Has, Has-map, Has-at, Has-filter, any-Has, from-find, none-find, none-found}
use Rattle.vw_design.proofs.Names.{name_same, Has-has_name}
use Rattle.vw_design.proofs.Entries.{placing_entry, entry_of}
use Rattle.vw_design.proofs.ListedInstances.{placer, placing_of_placed, instance_listed}
use Rattle.vw_design.proofs.TurnsEnd.{IsShallow, IsOneWay}

-- an output of a model
abbrev of_model : Word → Word → NameOf
of_model model name = record { model = model; name = name }

-- a number of a list is at most the greatest
le_greatest : (number : ℕ) (numbers : List ℕ) → Has number numbers → number ≤ greatest numbers
le_greatest number [] has = absurd has
le_greatest number (first ∷ numbers) has = ⊎_elim (λ same. omega arith) (λ later. omega (arith, le_greatest number numbers later)) has

module _ (design : Design) where
  -- the model of an instance stands in the file
  pub model_in_file : (path : Path) (model : Model) → model_at design path ≡ Some model → Has model design.models
  model_in_file [] model stands = Has-at model design.models 0 stands
  model_in_file (place ∷ path) model stands =
      let above = placer design place path model stands in
      let placing = placing_of_placed design place above.0 model above.2 in
      (from-find (λ (m : Model). bytes_eq m.name placing.1.model) model design.models placing.4).0

  -- no instance lies below 64 levels
  pub shallow : greatest_depth design ≤ 64 → IsShallow design 64
  shallow small = record { shallow = none } where
    listed : (path : Path) → length path ≡ 64 → (found : Option Model) → model_at design path ≡ found → found ≡ None
    listed path long None is = refl
    listed path long (Some model) is =
        let has = Has-map depth_at path (instances design) (instance_listed design path model is (omega arith)) in
        absurd (omega (arith, le_greatest (depth_at path) (map depth_at (instances design)) has))

    none : (path : Path) → 64 ≤ length path → model_at design path ≡ None
    none [] deep = absurd (omega arith)
    none (place ∷ path) deep =
        ⊎_elim (λ short. listed (place ∷ path) (omega arith) (model_at design (place ∷ path)) refl)
        (λ deeper. ap (option_and_then (model_placed design place)) (none path deeper)) (cases_lt (length path) 64)

  -- a model of an instance is reached
  pub model_reached : IsShallow design 64 → (path : Path) (model : Model) → model_at design path ≡ Some model → Has model (reached design)
  unfolding reached
  model_reached is_shallow path model stands =
      let short : length path < 64 = ⊎_elim (λ short. short) (λ deep. absurd (none-some model (sym (is_shallow.shallow path deep) ∙ stands))) (cases_lt (length path) 64) in
      let listed = instance_listed design path model stands (omega arith) in
      let named : has_model_name model.name (model_at design path) ≡ true = ap (has_model_name model.name) stands ∙ name_same model.name in
      let is : is_reached design model.name ≡ true = any-Has (λ p. has_model_name model.name (model_at design p)) path (instances design) listed named in
      Has-filter (λ (m : Model). is_reached design m.name) model design.models (model_in_file path model stands) is

  -- a search that finds nothing finds nothing at a placed model
  pub nothing_placed : {A : Type 0} → IsShallow design 64 → (search : ℕ → Word → List Bind → Option A) → first_placing design search ≡ None
      → (path : Path) (model : Model) → model_at design path ≡ Some model → (line : ℕ) (name : Word) (binds : List Bind)
      → Has (Sub line name binds) model.items → search line name binds ≡ None
  nothing_placed is_shallow search none path model stands line name binds has =
      let in_model = none-found (λ (m : Model). first_found (by_placing search) m.items) model (reached design) none (model_reached is_shallow path model stands) in
      none-found (by_placing search) (Sub line name binds) model.items in_model has

  -- an output of a placed model is no port of it
  no_output_is_port : (model : Model) (name : Word) → (output : Word) → has_name model.outputs output ≡ true
      → option_map (of_model name) (find (is_port model) model.outputs) ≡ None → is_port model output ≡ false
  no_output_is_port model name output has none = none-find (is_port model) output model.outputs (nothing (find (is_port model) model.outputs) none) (Has-has_name model.outputs output has) where
    nothing : (found : Option Word) → option_map (of_model name) found ≡ None → found ≡ None
    nothing None is = refl
    nothing (Some o) is = absurd (none-some (of_model name o) (sym is))

  pub one_way : IsShallow design 64 → port_both_ways design ≡ None → IsOneWay design
  one_way is_shallow none = record { one_way = by } where
    by : (place : ℕ) (path : Path) (model : Model) (name : Word) → model_at design (place ∷ path) ≡ Some model
        → has_name model.outputs name ≡ true → is_port model name ≡ false
    by place path model name stands has =
        let above = placer design place path model stands in
        let placing = placing_of_placed design place above.0 model above.2 in
        let entry = placing_entry above.0.items placing.0 placing.1 placing.3 in
        let item = entry_of above.0.items entry.entry entry.has in
        let sub : Has (Sub entry.line placing.1.model placing.1.binds) above.0.items =
        subst (λ (i : Item). Has i above.0.items) entry.item_is (Has-at entry.entry.item above.0.items entry.entry.number item.item) in
        let search = λ (line : ℕ) (placed : Word) (binds : List Bind). option_map (of_model placed) (at_model design (λ (m : Model). find (is_port m) m.outputs) placed) in
        let found : option_map (of_model placing.1.model) (at_model design (λ (m : Model). find (is_port m) m.outputs) placing.1.model) ≡ None =
        nothing_placed is_shallow search none path above.0 above.1 entry.line placing.1.model placing.1.binds sub in
        let here : option_map (of_model placing.1.model) (find (is_port model) model.outputs) ≡ None =
        sym (ap (λ (m : Option Model). option_map (of_model placing.1.model) (option_and_then (λ (m : Model). find (is_port m) m.outputs) m)) placing.4) ∙ found in
        no_output_is_port model placing.1.model name has here

  -- so it is where there is no fault of models
  pub faultless_shallow : HasNoModelFault design → IsShallow design 64
  faultless_shallow faultless = shallow faultless.small.depth

  pub faultless_one_way : HasNoModelFault design → IsOneWay design
  faultless_one_way faultless = one_way (faultless_shallow faultless) faultless.one_way
