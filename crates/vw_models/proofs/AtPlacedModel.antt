-- What is found at one of the placed models.
use Rattle.std.proofs.Common.{◌≡◌, ◌<◌, ◌≤◌, ◌+◌, ◌||◌, not, ℕ, Bool, true, false, List, ◌++◌, drop, length, map, get_or, Option, Some, None, is_some, slice_get, find, option_map, option_and_then, refl, sym, ◌∙◌, ap, subst, true≢false}
use Rattle.std.specs.Borrow.{Bor}
use Rattle.std.specs.List.{AllZip}
use Rattle.std.specs.Option.{option_or}
use Rattle.std.proofs.lemmas.List.{drop_all}
use Rattle.std.proofs.lemmas.Option.{slice_get_within, same_Some}
use Rattle.std.proofs.Math.Bool.{or-false}
use Rattle.std.proofs.lemmas.List.Folds.{find-append}
use Rattle.vw_design.specs.declared.item.Bind.{Bind}
use Rattle.vw_design.specs.declared.model.Model.{Model}
use Rattle.vw_design.specs.declared.design.Design.{Design}
use Rattle.vw_design.specs.Distinct.{has_name}
use Rattle.vw_net.specs.FirstFound.{first_found}
use Rattle.vw_design.specs.Paths.{Word, lent}
use Rattle.vw_design.specs.ModelFaults.{unknown_formal_in, is_formal_of, unbound_input_in}
use Rattle.vw_design.proofs.FilteredLists.{find_same}
use Rattle.vw_design.proofs.PairedLists.{AllZip-at}
use Rattle.vw_models.specs.declared.numbered_placing.NumberedPlacing.{NumberedPlacing}
use Rattle.vw_models.specs.Steps.PlacedModels.{at_numbered}
use Rattle.vw_net.proofs.FirstFound.{found_next, found_now}

-- what goes along with the model at a number
pub zip_at : {A : Type 0} (R : Model → A → Type 0) (models : List Model) (ys : List A) (k : ℕ) (model : Model) → AllZip R models ys → slice_get models k ≡ Some model
    → (k < length ys) × ((y : A) → slice_get ys k ≡ Some y → R model y)
zip_at {A} R models ys k model along at =
    let there = AllZip-at R models ys k model along at in
    (slice_get_within ys k there.0 there.1, λ y is. subst (λ (z : A). R model z) (same_Some there.0 y (sym there.1 ∙ is)) there.2)

module _ (design : Design) {A : Type 0} (search : ℕ → Model → List Bind → Option A) (all_numbered : List NumberedPlacing) (i : ℕ) (numbered : NumberedPlacing) (within : i < length all_numbered) (at : numbered ≡ get_or all_numbered i numbered) (model : Model) (stands : slice_get design.models numbered.number ≡ Some model) where
  here : at_numbered design search numbered ≡ search numbered.line model numbered.binds.now
  here = ap (option_and_then (λ (m : Model). search numbered.line m numbered.binds.now)) stands

  pub nothing_at : search numbered.line model numbered.binds.now ≡ None
      → first_found (at_numbered design search) (drop i all_numbered) ≡ first_found (at_numbered design search) all_numbered
      → first_found (at_numbered design search) (drop (i + 1) all_numbered) ≡ first_found (at_numbered design search) all_numbered
  nothing_at none far = found_next (at_numbered design search) all_numbered i numbered within at (here ∙ none) ∙ far

  pub something_at : (x : A) → search numbered.line model numbered.binds.now ≡ Some x
      → first_found (at_numbered design search) (drop i all_numbered) ≡ first_found (at_numbered design search) all_numbered
      → Some x ≡ first_found (at_numbered design search) all_numbered
  something_at x some far = sym (found_now (at_numbered design search) all_numbered i numbered within at x (here ∙ some)) ∙ far

pub nothing_left : {A : Type 0} (f : NumberedPlacing → Option A) (all_numbered : List NumberedPlacing) (i : ℕ) → length all_numbered ≤ i → first_found f (drop i all_numbered) ≡ first_found f all_numbered → None ≡ first_found f all_numbered
nothing_left f all_numbered i past far = sym (ap (first_found f) (drop_all i all_numbered past)) ∙ far

-- a name that was found, and its copy
module _ {A : Type 0} (made : Word → A) (found : Option (Bor Word)) (wanted : Option Word) (says : lent found ≡ wanted) where
  pub made_none : found ≡ None → option_map made wanted ≡ None
  made_none none = ap (option_map made) (sym says ∙ ap lent none)

  pub made_some : (name : Bor Word) → found ≡ Some name → (copy : Word) → copy ≡ name.now → option_map made wanted ≡ Some (made copy)
  made_some name some copy same = ap (option_map made) (sym says ∙ ap lent some) ∙ ap (λ (w : Word). Some (made w)) (sym same)

-- a formal that isn't in the set of a model's
pub unknown_by : (model : Model) (binds : List Bind) (has : Word → Bool) → ((name : Word) → has name ≡ is_formal_of model name)
    → option_map (λ bind. bind.formal) (find (λ bind. not (has bind.formal)) binds) ≡ unknown_formal_in model binds
unknown_by model binds has are =
    ap (option_map (λ (bind : Bind). bind.formal)) (find_same (λ (bind : Bind). not (has bind.formal)) (λ (bind : Bind). not (is_formal_of model bind.formal)) (λ bind. ap not (are bind.formal)) binds)

-- an input or clock that isn't bound
module _ (model : Model) (binds : List Bind) (has none : Word → Bool) (is : (name : Word) → has name ≡ has_name (map (λ bind. bind.formal) binds) name || none name) (empty : (name : Word) → none name ≡ false) where
  unbound_by : option_or (find (λ name. not (has name)) model.inputs) (find (λ name. not (has name)) model.clocks) ≡ unbound_input_in model binds
  unbound_by =
      sym (find-append (λ (name : Word). not (has name)) model.inputs model.clocks)
      ∙ find_same (λ (name : Word). not (has name)) (λ (name : Word). not (has_name (map (λ (bind : Bind). bind.formal) binds) name))
      (λ name. ap not (is name ∙ ap (λ (b : Bool). has_name (map (λ (bind : Bind). bind.formal) binds) name || b) (empty name) ∙ or-false (has_name (map (λ (bind : Bind). bind.formal) binds) name))) (model.inputs ++ model.clocks)

  some_first : (found : Option (Bor Word)) (rest : Option Word) → is_some found ≡ true → lent found ≡ option_or (lent found) rest
  some_first None rest some = absurd (true≢false (sym some))
  some_first (Some name) rest some = refl

  none_first : (found : Option (Bor Word)) (rest : Option Word) → is_some found ≡ false → rest ≡ option_or (lent found) rest
  none_first None rest none_found = refl
  none_first (Some name) rest none_found = absurd (true≢false none_found)

  pub in_inputs : (found : Option (Bor Word)) → lent found ≡ find (λ name. not (has name)) model.inputs → is_some found ≡ true → lent found ≡ unbound_input_in model binds
  in_inputs found says some =
      some_first found (find (λ (name : Word). not (has name)) model.clocks) some
      ∙ ap (λ (o : Option Word). option_or o (find (λ (name : Word). not (has name)) model.clocks)) says ∙ unbound_by

  pub in_clocks : (input found : Option (Bor Word)) → lent input ≡ find (λ name. not (has name)) model.inputs → is_some input ≡ false → lent found ≡ find (λ name. not (has name)) model.clocks
      → lent found ≡ unbound_input_in model binds
  in_clocks input found inputs no_input says =
      says ∙ none_first input (find (λ (name : Word). not (has name)) model.clocks) no_input
      ∙ ap (λ (o : Option Word). option_or o (find (λ (name : Word). not (has name)) model.clocks)) inputs ∙ unbound_by
