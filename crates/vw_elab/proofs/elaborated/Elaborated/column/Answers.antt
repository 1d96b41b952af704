use Rattle.std.proofs.Common.{◌≡◌, ◌<◌, ℕ, List, [], length, Some, get_or, slice_get, refl, sym, ◌∙◌, ap, ap₂, arith}
use Rattle.std.proofs.lemmas.Option.{slice_get_read, slice_get-get_or, get_or_from_slice_get, slice_get_within}
use Rattle.vw_design.specs.declared.design.Design.{Design}
use Rattle.vw_design.specs.declared.model.Model.{Model}
use Rattle.vw_design.specs.Clocks.{inputs_of, columns}
use Rattle.vw_design.specs.Paths.{Word, model_at}
use Rattle.vw_elab.proofs.PortColumns.{column_at}
use Rattle.vw_elab.proofs.elaborated.Elaborated.column.Goals as goal

record IsColumn (k place : ℕ) (names list : List Word) : Type 0 where
  within : place < length list
  same : slice_get list place ≡ slice_get names k

-- the place of the column among the inputs of the first model
column : (c : goal.After-inputs) → IsColumn c.args.k (get_or c.as_slice.result.now c.args.k 0) (columns c.args.self.now) c.inputs.result.now
column c =
    let design = c.self.inside.design in
    let k = c.args.k in
    let numbers = c.self.inside.columns.inputs in
    let within : k < length (columns design) = omega (arith, c.requires, ap (λ (d : Design). length (columns d)) c.self.view_is) in
    let found = column_at (inputs_of (model_at design [])) (columns design) numbers c.self.invariant.columns.inputs k within in
    let root : slice_get design.models 0 ≡ Some c.index-models-0.result = slice_get_read design.models (length design.models) 0 c.index-models-0.result refl design.some (c.index-models-0.is ∙ ap (λ (models : List Model). get_or models 0 c.index-models-0.result) c.models.ensures) in
    let list : inputs_of (model_at design []) ≡ c.inputs.result.now = ap inputs_of root ∙ sym c.inputs.ensures in
    let place : found.0 ≡ get_or c.as_slice.result.now k 0 = sym (get_or_from_slice_get numbers k found.0 0 found.1) ∙ ap (λ (ns : List ℕ). get_or ns k 0) (sym c.as_slice.ensures) in
    let same : slice_get c.inputs.result.now (get_or c.as_slice.result.now k 0) ≡ slice_get (columns design) k =
    ap₂ (λ (ns : List Word) (n : ℕ). slice_get ns n) (sym list) (sym place) ∙ found.2 in
    let named = slice_get-get_or (columns design) k [] within in
    record {
      within = slice_get_within c.inputs.result.now (get_or c.as_slice.result.now k 0) (get_or (columns design) k []) (same ∙ named);
      same = same ∙ ap (λ (d : Design). slice_get (columns d) k) c.self.view_is;
    }

pub bounds-inputs-place : goal.bounds-inputs-place
bounds-inputs-place c = (column c).within

pub returns : goal.returns
returns c =
    let is = column c.before in
    sym is.same ∙ slice_get_read c.inputs.result.now (length c.inputs.result.now) (get_or c.as_slice.result.now c.args.k 0) c.index-inputs-place.result refl is.within c.index-inputs-place.is
