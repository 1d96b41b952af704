-- Models by their numbers: which number the model of a name has.
use Rattle.std.proofs.Common.{◌≡◌, ◌+◌, not, ℕ, zero, suc, Bool, true, false, cond, List, [], ◌∷◌, map, slice_get, Option, Some, None, inl, inr, refl, sym, ◌∙◌, ap, subst, true≢false, arith}
use Rattle.std.specs.List.{position_or_len}
use Rattle.std.specs.Str.{bytes_eq}
use Rattle.std.proofs.lemmas.Bool.{and_parts, not-true}
use Rattle.std.proofs.lemmas.List.Folds.{find_at}
use Rattle.std.proofs.lemmas.Option.{none-some, same_Some}
use Rattle.vw_design.specs.declared.model.Model.{Model}
use Rattle.vw_design.specs.declared.design.Design.{Design}
use Rattle.vw_design.specs.Distinct.{has_name, are_distinct}
use Rattle.vw_design.specs.Paths.{Word, model_named, model_at}
use Rattle.vw_design.specs.ModelFaults.{has_model_name, place_in_file}
use Rattle.vw_design.proofs.ListElements.{Has, from-find}
use Rattle.vw_design.proofs.Names.{same_name, equal_names, has_name-Has}
use Rattle.vw_design.proofs.ListPlaces.{at_within}

-- where names differ, the first model with the name of a model is that model
name_listed : (models : List Model) (k : ℕ) (model : Model) → slice_get models k ≡ Some model → Has model.name (map (λ m. m.name) models)
name_listed [] k model at = absurd (none-some model at)
name_listed (first ∷ models) zero model at = inl (ap (λ (m : Model). m.name) (same_Some first model at))
name_listed (first ∷ models) (suc k) model at = inr (name_listed models k model at)

place_at : (models : List Model) (k : ℕ) (model : Model) → are_distinct (map (λ m. m.name) models) ≡ true → slice_get models k ≡ Some model
    → position_or_len (λ m. bytes_eq m.name model.name) models ≡ k
place_at [] k model distinct at = absurd (none-some model at)
place_at (first ∷ models) zero model distinct at =
    ap (λ (b : Bool). cond (not b) (1 + position_or_len (λ (m : Model). bytes_eq m.name model.name) models) 0) (equal_names first.name model.name (ap (λ (m : Model). m.name) (same_Some first model at)))
place_at (first ∷ models) (suc k) model distinct at =
    let parts = and_parts (not (has_name (map (λ (m : Model). m.name) models) first.name)) (are_distinct (map (λ (m : Model). m.name) models)) distinct in
    by (bytes_eq first.name model.name) refl (not-true (has_name (map (λ (m : Model). m.name) models) first.name) parts.0) (place_at models k model parts.1 at)
  where
    by : (b : Bool) → bytes_eq first.name model.name ≡ b → has_name (map (λ (m : Model). m.name) models) first.name ≡ false
        → position_or_len (λ (m : Model). bytes_eq m.name model.name) models ≡ k
        → cond (not b) (1 + position_or_len (λ (m : Model). bytes_eq m.name model.name) models) 0 ≡ suc k
    by true is fresh rest =
        let among = has_name-Has (map (λ (m : Model). m.name) models) first.name
        (subst (λ (w : Word). Has w (map (λ (m : Model). m.name) models)) (sym (same_name first.name model.name is)) (name_listed models k model at)) in
        absurd (true≢false (sym among ∙ fresh))
    by false is fresh rest = omega (arith, rest)

module _ (design : Design) where
  pub place_of_model : (k : ℕ) (model : Model) → slice_get design.models k ≡ Some model → place_in_file design model.name ≡ k
  place_of_model k model at = place_at design.models k model design.named at

  pub model_of_place : (name : Word) → model_named design.models name ≡ slice_get design.models (place_in_file design name)
  model_of_place name = find_at (λ (m : Model). bytes_eq m.name name) design.models

  pub named_at : (k : ℕ) (model : Model) → slice_get design.models k ≡ Some model → model_named design.models model.name ≡ Some model
  named_at k model at = model_of_place model.name ∙ ap (slice_get design.models) (place_of_model k model at) ∙ at

  pub same_number : (i j : ℕ) (one other : Model) → slice_get design.models i ≡ Some one → slice_get design.models j ≡ Some other
      → one.name ≡ other.name → i ≡ j
  same_number i j one other at_i at_j same = sym (place_of_model i one at_i) ∙ ap (place_in_file design) same ∙ place_of_model j other at_j

  pub name_of_named : (name : Word) (model : Model) → model_named design.models name ≡ Some model → model.name ≡ name
  name_of_named name model is = same_name model.name name (from-find (λ (m : Model). bytes_eq m.name name) model design.models is).1

  -- a model has one number
  pub one_number : (i j : ℕ) (model : Model) → slice_get design.models i ≡ Some model → slice_get design.models j ≡ Some model → i ≡ j
  one_number i j model at_i at_j = same_number i j model model at_i at_j refl

-- what has a name is a model with that name
pub named_by : (name : Word) (found : Option Model) → has_model_name name found ≡ true → (model : Model) × (found ≡ Some model) × (model.name ≡ name)
named_by name None has = absurd (true≢false (sym has))
named_by name (Some model) has = (model, refl, same_name model.name name has)

-- the root has a model
pub root_model : (design : Design) → (model : Model) × (model_at design [] ≡ Some model)
root_model design = at_within design.models 0 design.some
