-- The claims of a model that are gathered first are those of the design.
use Rattle.std.proofs.Common.{◌≡◌, ◌&&◌, ◌||◌, ◌+◌, ℕ, suc, Bool, true, false, List, [], ◌∷◌, ◌++◌, map, Option, Some, None, option_map, option_and_then, slice_get, if◌then◌else◌, flat_map, filter_map, inl, inr, refl, sym, ◌∙◌, ap, ap₂, arith}
use Rattle.std.specs.List.{cons_option}
use Rattle.std.specs.Option.{option_or}
use Rattle.std.specs.Str.{bytes_eq}
use Rattle.std.proofs.lemmas.List.Folds.{list_any-append}
use Rattle.vw_design.specs.declared.item.Bind.{Bind}
use Rattle.vw_design.specs.declared.item.Item.{Item}
use Rattle.vw_design.specs.declared.item.Item.TheVariants.{Names, Latch, Sub}
use Rattle.vw_design.specs.declared.model.Model.{Model}
use Rattle.vw_design.specs.declared.design.Design.{Design}
use Rattle.vw_design.specs.Distinct.{has_name}
use Rattle.vw_design.specs.Paths.{Word, Placing, placings, model_named, model_outputs, is_port}
use Rattle.vw_design.specs.Claims.{Numbered, and_behind, numbered, Claim as NamedClaim, port, driven, bound, bind_claim, item_claims, claims, first_claim}
use Rattle.vw_design.proofs.ListElements.{Has}
use Rattle.vw_design.proofs.Entries.{IsEntry, entry_of}
use Rattle.vw_drivers.specs.declared.claim.Claim.{Claim}
use Rattle.vw_drivers.specs.declared.claim.Claim.TheVariants.{Port, Driven, Bound}
use Rattle.vw_drivers.specs.declared.model_claims.ModelClaims.{ModelClaims}
use Rattle.vw_drivers.specs.Firsts.{First, claim_named}
use Rattle.vw_drivers.specs.Steps.GatheredClaims.{with_firsts, port_first, binds_made, item_made, with_claim, with_first_claims, with_item_claims, ports_only}
use Rattle.vw_drivers.specs.Claimed.{meant}
use Rattle.vw_drivers.proofs.ClaimLookups.{look, named_look, look_append, look_firsts, with_firsts_append}

-- the first of some claims and others
first_append : {A : Type 0} (one other : List A) → slice_get (one ++ other) 0 ≡ option_or (slice_get one 0) (slice_get other 0)
first_append [] other = refl
first_append (x ∷ one) other = refl

map_or : {A B : Type 0} (f : A → B) (one other : Option A) → option_map f (option_or one other) ≡ option_or (option_map f one) (option_map f other)
map_or f None other = refl
map_or f (Some x) other = refl

-- a port
look_ports : (names : List Word) (name : Word) → look (map port_first names) name ≡ (if has_name names name then Some Port else None)
look_ports [] name = refl
look_ports (first ∷ names) name = by (bytes_eq first name) (look_ports names name) where
  by : (b : Bool) → look (map port_first names) name ≡ (if has_name names name then Some Port else None)
      → (if b then Some Port else look (map port_first names) name) ≡ (if b || has_name names name then Some Port else None)
  by true rest = refl
  by false rest = rest

module _ (items : List Item) where
  -- bindings from a number on
  binds_first : (outputs : List Word) (placing : Placing) (before : ℕ) → slice_get (placings items) before ≡ Some placing → (name : Word) (number : ℕ) (binds : List Bind)
      → ((j : ℕ) → slice_get placing.binds (number + j) ≡ slice_get binds j)
      → option_map (meant items) (look (binds_made outputs (suc before) number binds) name)
      ≡ option_map (λ claim. Some claim) (slice_get (filter_map (bind_claim outputs (suc before) name) binds) 0)
  binds_first outputs placing before at name number [] along = refl
  binds_first outputs placing before at name number (bind ∷ binds) along =
      by (has_name outputs bind.formal) (bytes_eq bind.actual name) refl
      (binds_first outputs placing before at name (suc number) binds (λ j. ap (slice_get placing.binds) (let e : suc number + j ≡ number + suc j = omega arith in e) ∙ along (suc j)))
    where
      here : meant items (Bound (suc before) number) ≡ Some (bound (suc before) bind.formal)
      here =
          ap (λ (found : Option Placing). option_map (λ (b : Bind). bound (suc before) b.formal) (option_and_then (λ (p : Placing). slice_get p.binds number) found)) at
          ∙ ap (option_map (λ (b : Bind). bound (suc before) b.formal)) (ap (slice_get placing.binds) (let e : number ≡ number + 0 = omega arith in e) ∙ along 0)

      by : (output same : Bool) → bytes_eq bind.actual name ≡ same
          → option_map (meant items) (look (binds_made outputs (suc before) (suc number) binds) name) ≡ option_map (λ claim. Some claim) (slice_get (filter_map (bind_claim outputs (suc before) name) binds) 0)
          → option_map (meant items) (look (if output then record { name = bind.actual; claim = Bound (suc before) number } ∷ binds_made outputs (suc before) (suc number) binds else binds_made outputs (suc before) (suc number) binds) name)
          ≡ option_map (λ claim. Some claim) (slice_get (cons_option (if same && output then Some (bound (suc before) bind.formal) else None) (filter_map (bind_claim outputs (suc before) name) binds)) 0)
      by true true is further =
          ap (λ (b : Bool). option_map (meant items) (if b then Some (Bound (suc before) number) else look (binds_made outputs (suc before) (suc number) binds) name)) is
          ∙ ap (λ (c : Option NamedClaim). Some c) here
      by true false is further =
          ap (λ (b : Bool). option_map (meant items) (if b then Some (Bound (suc before) number) else look (binds_made outputs (suc before) (suc number) binds) name)) is ∙ further
      by false true is further = further
      by false false is further = further

  -- the output of a cell
  cell_first : (name out : Word) (number : ℕ)
      → option_map (meant items) (look (record { name = out; claim = Driven number } ∷ []) name)
      ≡ option_map (λ claim. Some claim) (slice_get (if bytes_eq out name then driven number ∷ [] else []) 0)
  cell_first name out number = by (bytes_eq out name) where
    by : (b : Bool) → option_map (meant items) (if b then Some (Driven number) else None) ≡ option_map (λ claim. Some claim) (slice_get (if b then driven number ∷ [] else []) 0)
    by true = refl
    by false = refl

  -- an item
  item_first : (design : Design) (name : Word) (number before : ℕ) (item : Item)
      → ((line : ℕ) (model : Word) (binds : List Bind) → item ≡ Sub line model binds → slice_get (placings items) before ≡ Some (record { model = model; binds = binds }))
      → option_map (meant items) (look (item_made design number before item) name) ≡ option_map (λ claim. Some claim) (slice_get (item_claims design name number before item) 0)
  item_first design name number before (Names line ins out cover) stands = cell_first name out number
  item_first design name number before (Latch line d q edge control init) stands = cell_first name q number
  item_first design name number before (Sub line model binds) stands =
      binds_first (model_outputs (model_named design.models model)) (record { model = model; binds = binds }) before (stands line model binds refl) name 0 binds
      (λ j. ap (slice_get binds) (let e : 0 + j ≡ j = omega arith in e))

  -- many items
  entries_first : (design : Design) (name : Word) (entries : List Numbered) → ((entry : Numbered) → Has entry entries → IsEntry items entry)
      → option_map (meant items) (look (flat_map (λ entry. item_made design entry.number entry.before entry.item) entries) name)
      ≡ option_map (λ claim. Some claim) (slice_get (flat_map (λ entry. item_claims design name entry.number entry.before entry.item) entries) 0)
  entries_first design name [] are = refl
  entries_first design name (entry ∷ entries) are =
      let made = item_made design entry.number entry.before entry.item in
      let named = item_claims design name entry.number entry.before entry.item in
      let all_made = flat_map (λ (entry : Numbered). item_made design entry.number entry.before entry.item) entries in
      let all_named = flat_map (λ (entry : Numbered). item_claims design name entry.number entry.before entry.item) entries in
      ap (option_map (meant items)) (look_append made all_made name)
      ∙ map_or (meant items) (look made name) (look all_made name)
      ∙ ap₂ (λ (one other : Option (Option NamedClaim)). option_or one other)
      (item_first design name entry.number entry.before entry.item (are entry (inl refl)).placing)
      (entries_first design name entries (λ other has. are other (inr has)))
      ∙ sym (map_or (λ (claim : NamedClaim). Some claim) (slice_get named 0) (slice_get all_named 0))
      ∙ ap (option_map (λ (claim : NamedClaim). Some claim)) (sym (first_append named all_named))

-- what the gathered claims are made of
pub all_firsts : (item : ℕ) (more : List First) (claims : ModelClaims) → (with_first_claims item more claims).firsts ≡ with_firsts claims.firsts more
all_firsts item [] claims = refl
all_firsts item (further ∷ more) claims = all_firsts item more (with_claim item further.name further.claim claims)

pub items_firsts : (design : Design) (number before : ℕ) (items : List Item) (claims : ModelClaims)
    → (with_item_claims design number before items claims).firsts
    ≡ with_firsts claims.firsts (flat_map (λ entry. item_made design entry.number entry.before entry.item) (numbered number before items))
items_firsts design number before [] claims = refl
items_firsts design number before (item ∷ items) claims =
    let made = item_made design number before item in
    let rest = flat_map (λ (entry : Numbered). item_made design entry.number entry.before entry.item) (numbered (suc number) (and_behind item before) items) in
    items_firsts design (suc number) (and_behind item before) items (with_first_claims number made claims)
    ∙ ap (λ (firsts : List First). with_firsts firsts rest) (all_firsts number made claims)
    ∙ sym (with_firsts_append claims.firsts made rest)

-- the first claims of a model
pub gathered_firsts : (design : Design) (model : Model) (name : Word)
    → option_map (meant model.items) (claim_named (with_item_claims design 0 0 model.items (ports_only model)).firsts name)
    ≡ option_map (λ claim. Some claim) (first_claim design (Some model) name)
gathered_firsts design model name =
    let ports = map port_first (model.inputs ++ model.clocks) in
    let made = flat_map (λ (entry : Numbered). item_made design entry.number entry.before entry.item) (numbered 0 0 model.items) in
    let named = flat_map (λ (entry : Numbered). item_claims design name entry.number entry.before entry.item) (numbered 0 0 model.items) in
    let whole = (with_item_claims design 0 0 model.items (ports_only model)).firsts in
    let found : look whole name ≡ option_or (look ports name) (look made name) =
    ap (λ (firsts : List First). look firsts name) (items_firsts design 0 0 model.items (ports_only model))
    ∙ look_firsts (with_firsts [] ports) made name
    ∙ ap (λ (found : Option Claim). option_or found (look made name)) (look_firsts [] ports name) in
    ap (option_map (meant model.items)) (named_look whole name ∙ found)
    ∙ map_or (meant model.items) (look ports name) (look made name)
    ∙ ap₂ (λ (one other : Option (Option NamedClaim)). option_or one other)
    (ap (option_map (meant model.items)) (look_ports (model.inputs ++ model.clocks) name
    ∙ ap (λ (b : Bool). if b then Some Port else None) (list_any-append (λ (other : Word). bytes_eq other name) model.inputs model.clocks))
    ∙ port_named (is_port model name))
    (entries_first model.items design name (numbered 0 0 model.items) (λ entry has. entry_of model.items entry has))
    ∙ sym (map_or (λ (claim : NamedClaim). Some claim) (slice_get (if is_port model name then port ∷ [] else []) 0) (slice_get named 0))
    ∙ ap (option_map (λ (claim : NamedClaim). Some claim)) (sym (first_append (if is_port model name then port ∷ [] else []) named))
  where
    port_named : (b : Bool) → option_map (meant model.items) (if b then Some Port else None) ≡ option_map (λ claim. Some claim) (slice_get (if b then port ∷ [] else []) 0)
    port_named true = refl
    port_named false = refl
