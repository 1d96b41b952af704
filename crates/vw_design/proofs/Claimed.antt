-- What a claim says of the item that it comes from.
use Rattle.std.proofs.Common.{◌≡◌, ◌&&◌, ℕ, suc, Bool, true, false, [], ◌∷◌, Option, Some, None, slice_get, if◌then◌else◌, ⊎_elim, refl, sym, ◌∙◌, ap, subst, true≢false, flat_map, option_and_then}
use Rattle.std.specs.Str.{bytes_eq}
use Rattle.std.proofs.lemmas.Bool.{and_parts}
use Rattle.std.proofs.lemmas.Option.{same_Some, none-some}
use Rattle.vw_design.specs.declared.item.Bind.{Bind}
use Rattle.vw_design.specs.declared.item.Item.{Item}
use Rattle.vw_design.specs.declared.item.Item.TheVariants.{Names, Latch, Sub}
use Rattle.vw_design.specs.declared.model.Model.{Model}
use Rattle.vw_design.specs.declared.design.Design.{Design}
use Rattle.vw_design.specs.Distinct.{has_name}
use Rattle.vw_design.specs.Paths.{Word, Placing, placings, model_named, model_placed, model_outputs, is_port}
use Rattle.vw_design.specs.Claims.{Numbered, numbered, Claim, port, driven, bound, bind_claim, item_claims, claims}
use Rattle.vw_design.specs.Preorder.{is_cell}
use Rattle.vw_design.proofs.ListElements.{Has, Has-append, from-flat_map, from-filter_map}
use Rattle.vw_design.proofs.Entries.{IsEntry, entry_of}

-- what a claim says of its model: a port is one; an item's output is that of a cell; a name that is bound to a formal is
-- so bound to an output of the model that is placed there
abbrev pub IsClaim : Design → Model → Word → Claim → Type 0
IsClaim design model name port = is_port model name ≡ true
IsClaim design model name (driven number) = (item : Item) × (slice_get model.items number ≡ Some item) × (is_cell item ≡ true)
IsClaim design model name (bound place formal) = (placed : Model) × (model_placed design place model ≡ Some placed) × (has_name placed.outputs formal ≡ true)

-- by cases on the test of an output
driven_by : (design : Design) (model : Model) (name : Word) (entry : Numbered) → IsEntry model.items entry → is_cell entry.item ≡ true
    → (b : Bool) (claim : Claim)
    → Has claim (if b then driven entry.number ∷ [] else []) → IsClaim design model name claim
driven_by design model name entry is cell true claim has =
    ⊎_elim (λ same. subst (IsClaim design model name) same (entry.item, is.item, cell)) (λ none. absurd none) has
driven_by design model name entry is cell false claim has = absurd has

-- the model of a name, where it has an output
has_outputs : (found : Option Model) (formal : Word) → has_name (model_outputs found) formal ≡ true
    → (placed : Model) × (found ≡ Some placed) × (has_name placed.outputs formal ≡ true)
has_outputs None formal has = absurd (true≢false (sym has))
has_outputs (Some placed) formal has = (placed, refl, has)

bound_by : (design : Design) (model : Model) (name : Word) (before : ℕ) (placing : Placing)
    → slice_get (placings model.items) before ≡ Some placing → (bind : Bind) (claim : Claim)
    → (b : Bool) → (bytes_eq bind.actual name && has_name (model_outputs (model_named design.models placing.model)) bind.formal) ≡ b
    → (if b then Some (bound (suc before) bind.formal) else None) ≡ Some claim → IsClaim design model name claim
bound_by design model name before placing at bind claim false is gives = absurd (none-some claim gives)
bound_by design model name before placing at bind claim true is gives =
    let parts = and_parts (bytes_eq bind.actual name) (has_name (model_outputs (model_named design.models placing.model)) bind.formal) is in
    let found = has_outputs (model_named design.models placing.model) bind.formal parts.1 in
    let stands : model_placed design (suc before) model ≡ Some found.0 = ap (option_and_then (λ (p : Placing). model_named design.models p.model)) at ∙ found.1 in
    subst (IsClaim design model name) (same_Some (bound (suc before) bind.formal) claim gives) (found.0, stands, found.2)

item_claim : (design : Design) (model : Model) (name : Word) (entry : Numbered) (item : Item) → entry.item ≡ item → IsEntry model.items entry → (claim : Claim)
    → Has claim (item_claims design name entry.number entry.before item) → IsClaim design model name claim
item_claim design model name entry (Names line ins out cover) same is claim has = driven_by design model name entry is (ap is_cell same) (bytes_eq out name) claim has
item_claim design model name entry (Latch line d q edge control init) same is claim has = driven_by design model name entry is (ap is_cell same) (bytes_eq q name) claim has
item_claim design model name entry (Sub line placed binds) same is claim has =
    let outputs = model_outputs (model_named design.models placed) in
    let from = from-filter_map (bind_claim outputs (suc entry.before) name) claim binds has in
    bound_by design model name entry.before (record { model = placed; binds = binds }) (is.placing line placed binds same) from.0 claim (bytes_eq from.0.actual name && has_name outputs from.0.formal) refl from.2

port_claim : (design : Design) (model : Model) (name : Word) (claim : Claim) (b : Bool) → is_port model name ≡ b
    → Has claim (if b then port ∷ [] else []) → IsClaim design model name claim
port_claim design model name claim true is has = ⊎_elim (λ same. subst (IsClaim design model name) same is) (λ none. absurd none) has
port_claim design model name claim false is has = absurd has

-- each claim on a name of a model says so
pub claim_is : (design : Design) (model : Model) (name : Word) (claim : Claim) → Has claim (claims design model name) → IsClaim design model name claim
claim_is design model name claim has =
    let of_entry = λ (entry : Numbered). item_claims design name entry.number entry.before entry.item in
    let ports = if is_port model name then port ∷ [] else [] in
    let by_item = λ (found : Has claim (flat_map of_entry (numbered 0 0 model.items))).
    let from = from-flat_map of_entry (numbered 0 0 model.items) claim found in
    item_claim design model name from.0 from.0.item refl (entry_of model.items from.0 from.1) claim from.2 in
    ⊎_elim (λ found. port_claim design model name claim (is_port model name) refl found) by_item (Has-append claim ports (flat_map of_entry (numbered 0 0 model.items)) has)
