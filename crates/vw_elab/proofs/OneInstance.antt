-- There is one instance with a number.
use Rattle.std.proofs.Common.{◌≡◌, ℕ, Some, Contains, slice_get, sym, ◌∙◌, ap, subst}
use Rattle.std.proofs.lemmas.Option.{same_Some}
use Rattle.vw_design.specs.declared.design.Design.{Design}
use Rattle.vw_design.specs.declared.model.Model.{Model}
use Rattle.vw_design.specs.Paths.{Path, model_at}
use Rattle.vw_design.specs.Preorder.{instances}
use Rattle.vw_design.specs.PathValue.{place_of_path}
use Rattle.vw_design.proofs.ListElements.{Has-at, Contains-Has}
use Rattle.vw_instances.specs.Tables.{IsPlacedBy}
use Rattle.vw_instances.proofs.OnlyTables.{number_once, by_once}
use Rattle.vw_elab.specs.declared.elaborated.Instance.{Instance}
use Rattle.vw_elab.specs.Numbers.{IsInstance}

module _ (design : Design) (placed : (path : Path) → Contains (instances design) path → (model : Model) × (model_at design path ≡ Some model)) (once : (place : ℕ) (path : Path) → slice_get (instances design) place ≡ Some path → place_of_path (instances design) path ≡ Some place) where
  pub instance_once : (number : ℕ) (one other : Instance) → IsInstance design number one → IsInstance design number other → one ≡ other
  instance_once number one other is are =
      let path : is.path ≡ are.path = same_Some is.path are.path (sym is.listed ∙ are.listed) in
      let stands = placed are.path (Contains-Has are.path (instances design) (Has-at are.path (instances design) number are.listed)) in
      let its_model = is.model ∙ ap (model_at design) path ∙ stands.1 in
      let model : one.model ≡ other.model = number_once design.models design.named one.model other.model stands.0 its_model (are.model ∙ stands.1) in
      let its_by = subst (λ (p : Path). IsPlacedBy (instances design) number p one.parent one.place) path is.by in
      let by = by_once design once number are.path one.parent one.place other.parent other.place its_by are.by in
      λ i. record { model = model i; parent = by.0 i; place = by.1 i }
