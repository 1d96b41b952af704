-- The claims of a model as a list of names and claims. Where the names are all different, each has its one claim.
use Rattle.std.proofs.Common.{◌≡◌, ◌&&◌, ℕ, suc, Bool, true, false, not, cond, List, [], ◌∷◌, ◌++◌, map, Option, Some, None, slice_get, if◌then◌else◌, filter, flat_map, filter_map, inl, inr, ⊎_elim, refl, sym, ◌∙◌, ap, ap₂, subst, true≢false}
use Rattle.std.specs.List.{cons_option, list_all}
use Rattle.std.specs.Str.{bytes_eq}
use Rattle.std.proofs.lemmas.Bool.{and_parts, false_from_ne_true}
use Rattle.std.proofs.lemmas.List.{map-append}
use Rattle.std.proofs.lemmas.List.Folds.{list_any-append}
use Rattle.std.proofs.lemmas.Option.{same_Some, none-some}
use Rattle.vw_design.specs.declared.item.Bind.{Bind}
use Rattle.vw_design.specs.declared.item.Item.{Item}
use Rattle.vw_design.specs.declared.item.Item.TheVariants.{Names, Latch, Sub}
use Rattle.vw_design.specs.declared.model.Model.{Model}
use Rattle.vw_design.specs.declared.design.Design.{Design}
use Rattle.vw_design.specs.Distinct.{has_name, are_distinct}
use Rattle.vw_design.specs.Paths.{Word, Placing, placings, model_named, model_outputs, is_port}
use Rattle.vw_design.specs.Claims.{Numbered, and_behind, numbered, Claim, port, driven, bound, bind_claim, item_claims, claims}
use Rattle.vw_design.specs.Preorder.{is_cell}
use Rattle.vw_design.specs.NetReads.{driven_name}
use Rattle.vw_design.specs.NetFaults.{bound_actual, claimed_by}
use Rattle.vw_design.proofs.ListElements.{Has, Has-map, Has-flat_map, Has-filter_map, Has-append, from-map, from-filter, from-flat_map, from-filter_map}
use Rattle.vw_design.proofs.Names.{same_name, equal_names, Has-has_name}
use Rattle.vw_design.proofs.DistinctNames.{distinct_first, distinct_rest, distinct_back, distinct_apart}
use Rattle.vw_design.proofs.Entries.{IsEntry, entry_of, item_entry, placing_entry}
use Rattle.vw_design.proofs.OneDriver.{claimed_names}

-- a name with a claim on it
pub record ClaimedName : Type 0 where
  pub name : Word
  pub claim : Claim

-- what a binding claims, where its formal is one of these outputs
abbrev pub bind_entry : List Word → ℕ → Bind → Option ClaimedName
bind_entry outputs place bind = if has_name outputs bind.formal then Some (record { name = bind.actual; claim = bound place bind.formal }) else None

-- the names that an item claims, each with its claim
abbrev pub item_entries : Design → ℕ → ℕ → Item → List ClaimedName
item_entries design number before (Names line ins out cover) = record { name = out; claim = driven number } ∷ []
item_entries design number before (Latch line d q edge control init) = record { name = q; claim = driven number } ∷ []
item_entries design number before (Sub line model binds) = filter_map (bind_entry (model_outputs (model_named design.models model)) (suc before)) binds

-- those that the items of a model claim
abbrev pub claim_list : Design → Model → List ClaimedName
claim_list design model = flat_map (λ entry. item_entries design entry.number entry.before entry.item) (numbered 0 0 model.items)

-- the claims of a list on a name
abbrev pub claims_in : Word → List ClaimedName → List Claim
claims_in name list = map (λ entry. entry.claim) (filter (λ entry. bytes_eq entry.name name) list)

-- the claims on a name in two lists
in_append : (name : Word) (one other : List ClaimedName) → claims_in name (one ++ other) ≡ claims_in name one ++ claims_in name other
in_append name [] other = refl
in_append name (entry ∷ one) other = by (bytes_eq entry.name name) (in_append name one other) where
  by : (b : Bool) → claims_in name (one ++ other) ≡ claims_in name one ++ claims_in name other
      → map (λ (e : ClaimedName). e.claim) (cond b (entry ∷ filter (λ (e : ClaimedName). bytes_eq e.name name) (one ++ other)) (filter (λ (e : ClaimedName). bytes_eq e.name name) (one ++ other)))
      ≡ map (λ (e : ClaimedName). e.claim) (cond b (entry ∷ filter (λ (e : ClaimedName). bytes_eq e.name name) one) (filter (λ (e : ClaimedName). bytes_eq e.name name) one)) ++ claims_in name other
  by true rest = ap (λ (cs : List Claim). entry.claim ∷ cs) rest
  by false rest = rest

-- ---- the list has the claims, and their names

-- a name before others that is the one that is asked for
passing : (name : Word) (entry : ClaimedName) (list : List ClaimedName) → bytes_eq entry.name name ≡ true
    → claims_in name (entry ∷ list) ≡ entry.claim ∷ claims_in name list
passing name entry list is = by (bytes_eq entry.name name) is where
  by : (b : Bool) → b ≡ true
      → map (λ (e : ClaimedName). e.claim) (cond b (entry ∷ filter (λ (e : ClaimedName). bytes_eq e.name name) list) (filter (λ (e : ClaimedName). bytes_eq e.name name) list)) ≡ entry.claim ∷ claims_in name list
  by true passes = refl
  by false passes = absurd (true≢false (sym passes))

-- and one that isn't
failing : (name : Word) (entry : ClaimedName) (list : List ClaimedName) → bytes_eq entry.name name ≡ false → claims_in name (entry ∷ list) ≡ claims_in name list
failing name entry list is = by (bytes_eq entry.name name) is where
  by : (b : Bool) → b ≡ false
      → map (λ (e : ClaimedName). e.claim) (cond b (entry ∷ filter (λ (e : ClaimedName). bytes_eq e.name name) list) (filter (λ (e : ClaimedName). bytes_eq e.name name) list)) ≡ claims_in name list
  by true fails = absurd (true≢false fails)
  by false fails = refl

-- the claims of bindings on a name are those in their list
bind_claims_in : (outputs : List Word) (place : ℕ) (name : Word) (binds : List Bind)
    → filter_map (bind_claim outputs place name) binds ≡ claims_in name (filter_map (bind_entry outputs place) binds)
bind_claims_in outputs place name [] = refl
bind_claims_in outputs place name (bind ∷ binds) = by (bytes_eq bind.actual name) refl (has_name outputs bind.formal) (bind_claims_in outputs place name binds) where
  by : (same : Bool) → bytes_eq bind.actual name ≡ same → (output : Bool)
      → filter_map (bind_claim outputs place name) binds ≡ claims_in name (filter_map (bind_entry outputs place) binds)
      → cons_option (if same && output then Some (bound place bind.formal) else None) (filter_map (bind_claim outputs place name) binds)
      ≡ claims_in name (cons_option (if output then Some (record { name = bind.actual; claim = bound place bind.formal }) else None) (filter_map (bind_entry outputs place) binds))
  by true is true rest =
      ap (λ (cs : List Claim). bound place bind.formal ∷ cs) rest
      ∙ sym (passing name (record { name = bind.actual; claim = bound place bind.formal }) (filter_map (bind_entry outputs place) binds) is)
  by true is false rest = rest
  by false is true rest = rest ∙ sym (failing name (record { name = bind.actual; claim = bound place bind.formal }) (filter_map (bind_entry outputs place) binds) is)
  by false is false rest = rest

-- so are those of an item
item_claims_in : (design : Design) (name : Word) (number before : ℕ) (item : Item)
    → item_claims design name number before item ≡ claims_in name (item_entries design number before item)
item_claims_in design name number before (Names line ins out cover) = by (bytes_eq out name) where
  by : (b : Bool) → (if b then driven number ∷ [] else []) ≡ map (λ (e : ClaimedName). e.claim) (cond b (record { name = out; claim = driven number } ∷ []) [])
  by true = refl
  by false = refl
item_claims_in design name number before (Latch line d q edge control init) = by (bytes_eq q name) where
  by : (b : Bool) → (if b then driven number ∷ [] else []) ≡ map (λ (e : ClaimedName). e.claim) (cond b (record { name = q; claim = driven number } ∷ []) [])
  by true = refl
  by false = refl
item_claims_in design name number before (Sub line model binds) = bind_claims_in (model_outputs (model_named design.models model)) (suc before) name binds

-- and those of numbered items
items_claims_in : (design : Design) (name : Word) (list : List Numbered)
    → flat_map (λ entry. item_claims design name entry.number entry.before entry.item) list ≡ claims_in name (flat_map (λ entry. item_entries design entry.number entry.before entry.item) list)
items_claims_in design name [] = refl
items_claims_in design name (entry ∷ list) =
    ap₂ (λ (one other : List Claim). one ++ other) (item_claims_in design name entry.number entry.before entry.item) (items_claims_in design name list)
    ∙ sym (in_append name (item_entries design entry.number entry.before entry.item) (flat_map (λ (e : Numbered). item_entries design e.number e.before e.item) list))

-- the claims on a name are a port, and those of the list
pub claims_listed : (design : Design) (model : Model) (name : Word)
    → claims design model name ≡ (if is_port model name then port ∷ [] else []) ++ claims_in name (claim_list design model)
claims_listed design model name =
    ap (λ (cs : List Claim). (if is_port model name then port ∷ [] else []) ++ cs) (items_claims_in design name (numbered 0 0 model.items))

-- the names in the list of bindings are their actuals
bind_names : (outputs : List Word) (place : ℕ) (binds : List Bind)
    → map (λ entry. entry.name) (filter_map (bind_entry outputs place) binds) ≡ filter_map (bound_actual outputs) binds
bind_names outputs place [] = refl
bind_names outputs place (bind ∷ binds) = by (has_name outputs bind.formal) (bind_names outputs place binds) where
  by : (b : Bool) → map (λ (e : ClaimedName). e.name) (filter_map (bind_entry outputs place) binds) ≡ filter_map (bound_actual outputs) binds
      → map (λ (e : ClaimedName). e.name) (cons_option (if b then Some (record { name = bind.actual; claim = bound place bind.formal }) else None) (filter_map (bind_entry outputs place) binds))
      ≡ cons_option (if b then Some bind.actual else None) (filter_map (bound_actual outputs) binds)
  by true rest = ap (λ (ws : List Word). bind.actual ∷ ws) rest
  by false rest = rest

-- those of an item are what it claims
item_names : (design : Design) (number before : ℕ) (item : Item) → map (λ entry. entry.name) (item_entries design number before item) ≡ claimed_by design item
item_names design number before (Names line ins out cover) = refl
item_names design number before (Latch line d q edge control init) = refl
item_names design number before (Sub line model binds) = bind_names (model_outputs (model_named design.models model)) (suc before) binds

-- and so for numbered items
items_names : (design : Design) (number before : ℕ) (items : List Item)
    → map (λ entry. entry.name) (flat_map (λ entry. item_entries design entry.number entry.before entry.item) (numbered number before items)) ≡ flat_map (claimed_by design) items
items_names design number before [] = refl
items_names design number before (item ∷ items) =
    let first = item_entries design number before item in
    let rest = flat_map (λ (e : Numbered). item_entries design e.number e.before e.item) (numbered (suc number) (and_behind item before) items) in
    map-append (λ (e : ClaimedName). e.name) first rest
    ∙ ap₂ (λ (one other : List Word). one ++ other) (item_names design number before item) (items_names design (suc number) (and_behind item before) items)

-- the names of the list are what the items claim
pub names_listed : (design : Design) (model : Model) → map (λ entry. entry.name) (claim_list design model) ≡ flat_map (claimed_by design) model.items
names_listed design model = items_names design 0 0 model.items

-- ---- one claim each

-- a name that is none of a list has no claim in it
none_in : (name : Word) (list : List ClaimedName) → (Has name (map (λ entry. entry.name) list) → ⊥) → claims_in name list ≡ []
none_in name [] none = refl
none_in name (entry ∷ list) none =
    failing name entry list (false_from_ne_true (bytes_eq entry.name name) (λ is. none (inl (same_name entry.name name is))))
    ∙ none_in name list (λ has. none (inr has))

-- a name of a list in which names differ has its claim alone
one_in : (entry : ClaimedName) (list : List ClaimedName) → are_distinct (map (λ entry. entry.name) list) ≡ true → Has entry list
    → claims_in entry.name list ≡ entry.claim ∷ []
one_in entry [] all has = absurd has
one_in entry (first ∷ list) all has =
    let names = map (λ (e : ClaimedName). e.name) list in
    let fresh = distinct_first first.name names all in
    let here = λ (same : first ≡ entry).
    let named : first.name ≡ entry.name = ap (λ (e : ClaimedName). e.name) same in
    passing entry.name first list (equal_names first.name entry.name named)
    ∙ ap₂ (λ (c : Claim) (cs : List Claim). c ∷ cs) (ap (λ (e : ClaimedName). e.claim) same)
    (none_in entry.name list (λ among. fresh (subst (λ (w : Word). Has w names) (sym named) among))) in
    let there = λ (later : Has entry list).
    let among = Has-map (λ (e : ClaimedName). e.name) entry list later in
    failing entry.name first list
    (false_from_ne_true (bytes_eq first.name entry.name) (λ is. fresh (subst (λ (w : Word). Has w names) (sym (same_name first.name entry.name is)) among)))
    ∙ one_in entry list (distinct_rest first.name names all) later in
    ⊎_elim here there has

-- a name is a port where it is among the inputs and clocks
pub port_among : (model : Model) (name : Word) → is_port model name ≡ has_name (model.inputs ++ model.clocks) name
port_among model name = sym (list_any-append (λ (other : Word). bytes_eq other name) model.inputs model.clocks)

module _ (design : Design) (model : Model) (all : are_distinct (claimed_names design model) ≡ true) where
  -- a name that an item claims is no port, and a port is claimed by no item
  ports_apart : (name : Word) → is_port model name ≡ true → Has name (map (λ (e : ClaimedName). e.name) (claim_list design model)) → ⊥
  ports_apart name is has =
      distinct_apart (model.inputs ++ model.clocks) (flat_map (claimed_by design) model.items) all name
      (Has-has_name (model.inputs ++ model.clocks) name (sym (port_among model name) ∙ is))
      (subst (λ (ws : List Word). Has name ws) (names_listed design model) has)

  -- each name of the list has its claim alone
  pub listed_claim : (entry : ClaimedName) → Has entry (claim_list design model) → claims design model entry.name ≡ entry.claim ∷ []
  listed_claim entry has =
      let among = Has-map (λ (e : ClaimedName). e.name) entry (claim_list design model) has in
      let no_port = false_from_ne_true (is_port model entry.name) (λ is. ports_apart entry.name is among) in
      let different : are_distinct (map (λ (e : ClaimedName). e.name) (claim_list design model)) ≡ true =
      ap are_distinct (names_listed design model) ∙ distinct_back (model.inputs ++ model.clocks) (flat_map (claimed_by design) model.items) all in
      claims_listed design model entry.name
      ∙ ap₂ (λ (b : Bool) (cs : List Claim). (if b then port ∷ [] else []) ++ cs) no_port (one_in entry (claim_list design model) different has)

  -- a port has the one claim that it is one
  pub port_claims : (name : Word) → is_port model name ≡ true → claims design model name ≡ port ∷ []
  port_claims name is =
      claims_listed design model name
      ∙ ap₂ (λ (b : Bool) (cs : List Claim). (if b then port ∷ [] else []) ++ cs) is (none_in name (claim_list design model) (ports_apart name is))

  -- what a gate or latch drives has the one claim of that item
  pub driven_claims : (number : ℕ) (item : Item) → slice_get model.items number ≡ Some item → is_cell item ≡ true
      → claims design model (driven_name item) ≡ driven number ∷ []
  driven_claims number item at cell =
      let entry = item_entry model.items number item at in
      let listed : ClaimedName = record { name = driven_name item; claim = driven number } in
      let here : Has listed (item_entries design entry.entry.number entry.entry.before entry.entry.item) =
      subst (λ (i : Item). Has listed (item_entries design entry.entry.number entry.entry.before i)) (sym entry.item_is)
      (subst (λ (n : ℕ). Has listed (item_entries design n entry.entry.before item)) (sym entry.number_is) (by number entry.entry.before item cell)) in
      listed_claim listed (Has-flat_map (λ (e : Numbered). item_entries design e.number e.before e.item) entry.entry (numbered 0 0 model.items) listed entry.has here)
    where
      by : (number before : ℕ) (item : Item) → is_cell item ≡ true → Has (record { name = driven_name item; claim = driven number }) (item_entries design number before item)
      by number before (Names line ins out cover) cell = inl refl
      by number before (Latch line d q edge control init) cell = inl refl
      by number before (Sub line model binds) cell = absurd (true≢false (sym cell))

  -- a name that is bound to an output of a placed model has the one claim of that output
  pub bound_claims : (before : ℕ) (placing : Placing) → slice_get (placings model.items) before ≡ Some placing → (bind : Bind) → Has bind placing.binds
      → has_name (model_outputs (model_named design.models placing.model)) bind.formal ≡ true
      → claims design model bind.actual ≡ bound (suc before) bind.formal ∷ []
  bound_claims before placing at bind has output =
      let entry = placing_entry model.items before placing at in
      let outputs = model_outputs (model_named design.models placing.model) in
      let listed : ClaimedName = record { name = bind.actual; claim = bound (suc before) bind.formal } in
      let gives : bind_entry outputs (suc before) bind ≡ Some listed = ap (λ (b : Bool). if b then Some listed else None) output in
      let mine : Has listed (filter_map (bind_entry outputs (suc before)) placing.binds) = Has-filter_map (bind_entry outputs (suc before)) listed bind placing.binds has gives in
      let here : Has listed (item_entries design entry.entry.number entry.entry.before entry.entry.item) =
      subst (λ (i : Item). Has listed (item_entries design entry.entry.number entry.entry.before i)) (sym entry.item_is)
      (subst (λ (n : ℕ). Has listed (filter_map (bind_entry outputs (suc n)) placing.binds)) (sym entry.before_is) mine) in
      listed_claim listed (Has-flat_map (λ (e : Numbered). item_entries design e.number e.before e.item) entry.entry (numbered 0 0 model.items) listed entry.has here)

-- ---- where claims come from

-- an item with a number that drives a name
pub record DrivesName (model : Model) (number : ℕ) (name : Word) : Type 0 where
  pub item : Item
  pub at : slice_get model.items number ≡ Some item
  pub cell : is_cell item ≡ true
  pub name_is : driven_name item ≡ name

-- claims that are the same are of the same kind, and of the same item
driven_same : (one other : ℕ) → driven one ≡ driven other → one ≡ other
driven_same one other e = cc

not_port : (number : ℕ) → port ≡ driven number → ⊥
not_port number e = cc

not_bound : (place : ℕ) (formal : Word) (number : ℕ) → bound place formal ≡ driven number → ⊥
not_bound place formal number e = cc

-- a claim of an item, in the list of a numbered item, is of that item
driven_entry : (design : Design) (model : Model) (number : ℕ) (listed : ClaimedName) → listed.claim ≡ driven number → (entry : Numbered)
    → IsEntry model.items entry → (item : Item) → entry.item ≡ item
    → Has listed (item_entries design entry.number entry.before item) → DrivesName model number listed.name
driven_entry design model number listed claims entry is (Names line ins out cover) same has =
    ⊎_elim (λ here. record {
      item = entry.item;
      at = ap (slice_get model.items) (sym (driven_same entry.number number (ap (λ (e : ClaimedName). e.claim) here ∙ claims))) ∙ is.item;
      cell = ap is_cell same;
      name_is = ap driven_name same ∙ ap (λ (e : ClaimedName). e.name) here;
    }) (λ none. absurd none) has
driven_entry design model number listed claims entry is (Latch line d q edge control init) same has =
    ⊎_elim (λ here. record {
      item = entry.item;
      at = ap (slice_get model.items) (sym (driven_same entry.number number (ap (λ (e : ClaimedName). e.claim) here ∙ claims))) ∙ is.item;
      cell = ap is_cell same;
      name_is = ap driven_name same ∙ ap (λ (e : ClaimedName). e.name) here;
    }) (λ none. absurd none) has
driven_entry design model number listed claims entry is (Sub line placed binds) same has =
    let outputs = model_outputs (model_named design.models placed) in
    let from = from-filter_map (bind_entry outputs (suc entry.before)) listed binds has in
    absurd (by from.0 (has_name outputs from.0.formal) from.2)
  where
    by : (bind : Bind) (b : Bool) → (if b then Some (record { name = bind.actual; claim = bound (suc entry.before) bind.formal }) else None) ≡ Some listed → ⊥
    by bind true gives =
        not_bound (suc entry.before) bind.formal number
        (ap (λ (e : ClaimedName). e.claim) (same_Some (record { name = bind.actual; claim = bound (suc entry.before) bind.formal }) listed gives) ∙ claims)
    by bind false gives = none-some listed gives

-- a claim that an item drives a name is one of an item that drives this name
pub driven_is : (design : Design) (model : Model) (name : Word) (number : ℕ) → Has (driven number) (claims design model name) → DrivesName model number name
driven_is design model name number has =
    let list = claim_list design model in
    let ports = if is_port model name then port ∷ [] else [] in
    let listed = λ (found : Has (driven number) (claims_in name list)).
    let of_map = from-map (λ (e : ClaimedName). e.claim) (driven number) (filter (λ (e : ClaimedName). bytes_eq e.name name) list) found in
    let of_filter = from-filter (λ (e : ClaimedName). bytes_eq e.name name) of_map.0 list of_map.1 in
    let from = from-flat_map (λ (e : Numbered). item_entries design e.number e.before e.item) (numbered 0 0 model.items) of_map.0 of_filter.0 in
    subst (DrivesName model number) (same_name of_map.0.name name of_filter.1)
    (driven_entry design model number of_map.0 of_map.2 from.0 (entry_of model.items from.0 from.1) from.0.item refl from.2) in
    ⊎_elim (λ found. absurd (by (is_port model name) found)) listed
    (Has-append (driven number) ports (claims_in name list) (subst (λ (cs : List Claim). Has (driven number) cs) (claims_listed design model name) has))
  where
    by : (b : Bool) → Has (driven number) (if b then port ∷ [] else []) → ⊥
    by true found = ⊎_elim (not_port number) (λ none. none) found
    by false found = found

-- ---- models that place none

-- no item of a model places another
abbrev pub IsLeaf : Model → Type 0
IsLeaf model = list_all is_cell model.items ≡ true

-- cells claim the names that they drive
leaf_names : (design : Design) (items : List Item) → list_all is_cell items ≡ true → flat_map (claimed_by design) items ≡ map driven_name items
leaf_names design [] all = refl
leaf_names design (Names line ins out cover ∷ items) all = ap (λ (ws : List Word). out ∷ ws) (leaf_names design items all)
leaf_names design (Latch line d q edge control init ∷ items) all = ap (λ (ws : List Word). q ∷ ws) (leaf_names design items all)
leaf_names design (Sub line model binds ∷ items) all = absurd (true≢false (sym (and_parts false (list_all is_cell items) all).0))

-- it claims its inputs and clocks, and the names that its items drive
pub leaf_claims : (design : Design) (model : Model) → IsLeaf model → claimed_names design model ≡ (model.inputs ++ model.clocks) ++ map driven_name model.items
leaf_claims design model leaf = ap (λ (ws : List Word). (model.inputs ++ model.clocks) ++ ws) (leaf_names design model.items leaf)

-- so these claims are different where those names are
pub leaf_distinct : (design : Design) (model : Model) → IsLeaf model → are_distinct ((model.inputs ++ model.clocks) ++ map driven_name model.items) ≡ true
    → are_distinct (claimed_names design model) ≡ true
leaf_distinct design model leaf all = ap are_distinct (leaf_claims design model leaf) ∙ all

-- ---- models that only place

-- no item of a model is a gate or a latch
abbrev pub OnlyPlaces : Model → Type 0
OnlyPlaces model = list_all (λ item. not (is_cell item)) model.items ≡ true

-- what placed models claim by their outputs, from a place on
abbrev pub placed_entries : Design → ℕ → List Placing → List ClaimedName
placed_entries design before [] = []
placed_entries design before (placing ∷ others) =
    filter_map (bind_entry (model_outputs (model_named design.models placing.model)) (suc before)) placing.binds ++ placed_entries design (suc before) others

-- what items claim that only place models
place_entries : (design : Design) (number before : ℕ) (items : List Item) → list_all (λ item. not (is_cell item)) items ≡ true
    → flat_map (λ entry. item_entries design entry.number entry.before entry.item) (numbered number before items) ≡ placed_entries design before (placings items)
place_entries design number before [] all = refl
place_entries design number before (Names line ins out cover ∷ items) all = absurd (true≢false (sym (and_parts false (list_all (λ (i : Item). not (is_cell i)) items) all).0))
place_entries design number before (Latch line d q edge control init ∷ items) all = absurd (true≢false (sym (and_parts false (list_all (λ (i : Item). not (is_cell i)) items) all).0))
place_entries design number before (Sub line model binds ∷ items) all =
    ap (λ (rest : List ClaimedName). filter_map (bind_entry (model_outputs (model_named design.models model)) (suc before)) binds ++ rest)
    (place_entries design (suc number) (suc before) items (and_parts true (list_all (λ (i : Item). not (is_cell i)) items) all).1)

-- its claims are those of what it places, one for each binding of an output
pub placer_claims : (design : Design) (model : Model) → OnlyPlaces model → claim_list design model ≡ placed_entries design 0 (placings model.items)
placer_claims design model places = place_entries design 0 0 model.items places
