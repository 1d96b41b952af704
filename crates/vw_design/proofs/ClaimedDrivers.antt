-- The driver of a net by the first claim on it.
use Rattle.std.proofs.Common.{◌≡◌, ℕ, suc, Bool, true, false, not, cond, List, [], ◌∷◌, ◌++◌, map, Option, Some, None, slice_get, option_map, option_and_then, find, flat_map, if◌then◌else◌, ⊎_elim, refl, sym, ◌∙◌, ap, subst, true≢false}
use Rattle.std.specs.Str.{bytes_eq}
use Rattle.std.proofs.lemmas.Bool.{and_parts, not-true}
use Rattle.vw_design.specs.declared.item.Bind.{Bind}
use Rattle.vw_design.specs.declared.item.Item.{Item}
use Rattle.vw_design.specs.declared.model.Model.{Model}
use Rattle.vw_design.specs.declared.design.Design.{Design}
use Rattle.vw_design.specs.Distinct.{has_name, are_distinct}
use Rattle.vw_design.specs.Paths.{Word, Path, Placing, placings, placing_at, model_at, is_port, model_named, model_outputs}
use Rattle.vw_design.specs.Claims.{Numbered, numbered, Claim, port, driven, bound, item_claims, claims, first_claim}
use Rattle.vw_design.specs.Drivers.{at_port, at_cell, actual_among, actual_of, turn_up, turn_by, follow_turn, source_after, driver}
use Rattle.vw_design.specs.Preorder.{is_cell}
use Rattle.vw_design.specs.NetReads.{driven_name}
use Rattle.vw_design.specs.Accepted.{HasNoModelFault}
use Rattle.vw_design.proofs.ListElements.{Has, Has-at, Has-map, all-Has}
use Rattle.vw_design.proofs.Names.{same_name, equal_names, has_name-Has}
use Rattle.vw_design.proofs.OneDriver.{claimed_names}
use Rattle.vw_design.proofs.ListedClaims.{IsLeaf, leaf_claims, driven_claims, bound_claims}
use Rattle.vw_design.proofs.ShallowDesigns.{faultless_shallow, faultless_one_way}
use Rattle.vw_design.proofs.TurnsEnd.{driver-turn}

-- the first of some claims
pub claim_first : (design : Design) (path : Path) (model : Model) (name : Word) (claim : Claim) (others : List Claim)
    → model_at design path ≡ Some model → claims design model name ≡ claim ∷ others
    → first_claim design (model_at design path) name ≡ Some claim
claim_first design path model name claim others stands are = ap (λ (m : Option Model). first_claim design m name) stands ∙ ap (λ (cs : List Claim). slice_get cs 0) are

-- a port is claimed first as one, whatever else claims it
pub port_first : (design : Design) (path : Path) (model : Model) (name : Word) → model_at design path ≡ Some model
    → is_port model name ≡ true → first_claim design (model_at design path) name ≡ Some port
port_first design path model name stands is =
    ap (λ (m : Option Model). first_claim design m name) stands
    ∙ ap (λ (b : Bool). slice_get ((if b then port ∷ [] else []) ++ flat_map (λ (e : Numbered). item_claims design name e.number e.before e.item) (numbered 0 0 model.items)) 0) is

module _ (design : Design) where
  -- a net that an item is the first to claim has that item as driver
  pub driven_driver : (path : Path) (name : Word) (number : ℕ) → first_claim design (model_at design path) name ≡ Some (driven number)
      → driver design path name ≡ Some (at_cell path number)
  unfolding driver
  driven_driver path name number is = ap (λ (c : Option Claim). follow_turn (source_after design 127) (turn_by design path name c)) is

  -- a port of the root is a driver
  pub root_driver : (name : Word) → first_claim design (model_at design []) name ≡ Some port → driver design [] name ≡ Some (at_port name)
  unfolding driver
  root_driver name is = ap (λ (c : Option Claim). follow_turn (source_after design 127) (turn_by design [] name c)) is

  -- a net without a claim has none
  pub no_driver : (path : Path) (name : Word) → first_claim design (model_at design path) name ≡ None → driver design path name ≡ None
  unfolding driver
  no_driver path name is = ap (λ (c : Option Claim). follow_turn (source_after design 127) (turn_by design path name c)) is

  module _ (faultless : HasNoModelFault design) where
    -- the driver of a net is where its first claim leads
    one_turn : (path : Path) (name : Word) (claim : Claim) → first_claim design (model_at design path) name ≡ Some claim
        → driver design path name ≡ follow_turn (driver design) (turn_by design path name (Some claim))
    one_turn path name claim is =
        driver-turn design (faultless_shallow design faultless) (faultless_one_way design faultless) path name
        ∙ ap (λ (c : Option Claim). follow_turn (driver design) (turn_by design path name c)) is

    -- a port of a placed model has the driver of its actual, in the instance above
    pub port_driver : (place : ℕ) (path : Path) (name actual : Word) → first_claim design (model_at design (place ∷ path)) name ≡ Some port
        → actual_of design place path name ≡ Some actual
        → driver design (place ∷ path) name ≡ driver design path actual
    port_driver place path name actual is above =
        one_turn (place ∷ path) name port is ∙ ap (λ (found : Option Word). follow_turn (driver design) (turn_up path found)) above

    -- a name that is bound to an output of a placed model has the driver of that output, in the instance below
    pub bound_driver : (path : Path) (name : Word) (place : ℕ) (formal : Word) → first_claim design (model_at design path) name ≡ Some (bound place formal)
        → driver design path name ≡ driver design (place ∷ path) formal
    bound_driver path name place formal is = one_turn path name (bound place formal) is

-- where formals differ, the actual of a formal is that of its binding
pub actual_is : (binds : List Bind) (bind : Bind) (name : Word) → are_distinct (map (λ b. b.formal) binds) ≡ true → Has bind binds
    → bind.formal ≡ name → actual_among binds name ≡ Some bind.actual
actual_is [] bind name distinct has is = absurd has
actual_is (first ∷ binds) bind name distinct has is =
    let formals = map (λ (b : Bind). b.formal) binds in
    let parts = and_parts (not (has_name formals first.formal)) (are_distinct formals) distinct in
    by (bytes_eq first.formal name) refl (not-true (has_name formals first.formal) parts.0) (λ later. actual_is binds bind name parts.1 later is) has
  where
    by : (b : Bool) → bytes_eq first.formal name ≡ b → has_name (map (λ (b : Bind). b.formal) binds) first.formal ≡ false
        → (Has bind binds → actual_among binds name ≡ Some bind.actual) → Has bind (first ∷ binds)
        → option_map (λ (b : Bind). b.actual) (cond b (Some first) (find (λ (b : Bind). bytes_eq b.formal name) binds)) ≡ Some bind.actual
    by true same fresh rest has =
        ⊎_elim (λ here. ap (λ (b : Bind). Some b.actual) here)
        (λ later. absurd (true≢false (sym (has_name-Has (map (λ (b : Bind). b.formal) binds) first.formal
        (subst (λ (w : Word). Has w (map (λ (b : Bind). b.formal) binds)) (is ∙ sym (same_name first.formal name same)) (Has-map (λ (b : Bind). b.formal) bind binds later))) ∙ fresh))) has
    by false other fresh rest has =
        ⊎_elim (λ here. absurd (true≢false (sym (equal_names first.formal name (ap (λ (b : Bind). b.formal) here ∙ is)) ∙ other))) rest has

-- the actual of a formal at a place of an instance is that of the binding there
pub actual_at : (design : Design) (path : Path) (model : Model) (before : ℕ) (placing : Placing) (bind : Bind) → model_at design path ≡ Some model
    → slice_get (placings model.items) before ≡ Some placing → are_distinct (map (λ b. b.formal) placing.binds) ≡ true → Has bind placing.binds
    → actual_of design (suc before) path bind.formal ≡ Some bind.actual
actual_at design path model before placing bind stands at distinct has =
    ap (option_and_then (λ (m : Model). option_and_then (λ (p : Placing). actual_among p.binds bind.formal) (placing_at m.items (suc before)))) stands
    ∙ ap (option_and_then (λ (p : Placing). actual_among p.binds bind.formal)) at
    ∙ actual_is placing.binds bind bind.formal distinct has refl

-- ---- where all names that a model claims are different

module _ (design : Design) (path : Path) (model : Model) (stands : model_at design path ≡ Some model) where
  -- the driver of a name that a gate or latch of an instance drives
  pub cell_driver : are_distinct (claimed_names design model) ≡ true → (number : ℕ) (item : Item) → slice_get model.items number ≡ Some item
      → is_cell item ≡ true
      → driver design path (driven_name item) ≡ Some (at_cell path number)
  cell_driver all number item at cell =
      driven_driver design path (driven_name item) number (claim_first design path model (driven_name item) (driven number) [] stands (driven_claims design model all number item at cell))

  -- so it is for each item of a model that places none, where its inputs, clocks and driven names are different
  pub leaf_driver : IsLeaf model → are_distinct ((model.inputs ++ model.clocks) ++ map driven_name model.items) ≡ true
      → (number : ℕ) (item : Item) → slice_get model.items number ≡ Some item
      → driver design path (driven_name item) ≡ Some (at_cell path number)
  leaf_driver leaf all number item at =
      cell_driver (ap are_distinct (leaf_claims design model leaf) ∙ all) number item at (all-Has is_cell item model.items leaf (Has-at item model.items number at))

  -- the driver of an actual that is bound to an output of a placed model
  pub output_driver : HasNoModelFault design → are_distinct (claimed_names design model) ≡ true → (before : ℕ) (placing : Placing)
      → slice_get (placings model.items) before ≡ Some placing
      → (bind : Bind) → Has bind placing.binds → has_name (model_outputs (model_named design.models placing.model)) bind.formal ≡ true
      → driver design path bind.actual ≡ driver design (suc before ∷ path) bind.formal
  output_driver faultless all before placing at bind has output =
      bound_driver design faultless path bind.actual (suc before) bind.formal
      (claim_first design path model bind.actual (bound (suc before) bind.formal) [] stands (bound_claims design model all before placing at bind has output))

-- the driver of a port of a placed model, as it is bound in the instance above
pub input_driver : (design : Design) → HasNoModelFault design → (path : Path) (above : Model) → model_at design path ≡ Some above
    → (before : ℕ) (placing : Placing) → slice_get (placings above.items) before ≡ Some placing → are_distinct (map (λ b. b.formal) placing.binds) ≡ true
    → (model : Model) → model_at design (suc before ∷ path) ≡ Some model → (bind : Bind) → Has bind placing.binds → is_port model bind.formal ≡ true
    → driver design (suc before ∷ path) bind.formal ≡ driver design path bind.actual
input_driver design faultless path above stands before placing at distinct model placed bind has is =
    port_driver design faultless (suc before) path bind.formal bind.actual
    (port_first design (suc before ∷ path) model bind.formal placed is)
    (actual_at design path above before placing bind stands at distinct has)
