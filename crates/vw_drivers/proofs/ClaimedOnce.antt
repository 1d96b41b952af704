-- The names of first claims are the claimed names, each where it first stands.
use Rattle.std.proofs.Common.{◌≡◌, ◌&&◌, ◌||◌, ℕ, suc, Bool, true, false, not, cond, List, [], ◌∷◌, ◌++◌, length, map, filter, flat_map, take, Some, append-nil, append_assoc, if◌then◌else◌, refl, sym, ◌∙◌, ap, ap₂, arith}
use Rattle.std.specs.Str.{bytes_eq}
use Rattle.std.proofs.lemmas.List.{map-append, take_all}
use Rattle.vw_design.specs.declared.item.Item.{Item}
use Rattle.vw_design.specs.declared.model.Model.{Model}
use Rattle.vw_design.specs.declared.design.Design.{Design}
use Rattle.vw_design.specs.Paths.{Word}
use Rattle.vw_design.specs.Claims.{Numbered, and_behind, numbered}
use Rattle.vw_design.specs.NetFaults.{claimed_by, claimed_before}
use Rattle.vw_drivers.specs.Firsts.{First}
use Rattle.vw_drivers.specs.Claimed.{each_once}
use Rattle.vw_drivers.specs.Steps.GatheredClaims.{has_claim, with_first, with_firsts, port_first, item_made, with_item_claims, ports_only}
use Rattle.vw_drivers.proofs.ClaimLookups.{claimed_names, has_first_more, with_firsts_append}
use Rattle.vw_drivers.proofs.FirstClaims.{items_firsts}
use Rattle.vw_drivers.proofs.ModelClaimsAgain.{made_names, ports_names}

-- two tests one after the other
filter_both : (both one other : Word → Bool) → ((name : Word) → both name ≡ (one name && other name)) → (names : List Word) → filter both names ≡ filter one (filter other names)
filter_both both one other are [] = refl
filter_both both one other are (name ∷ names) =
    ap (λ (b : Bool). cond b (name ∷ filter both names) (filter both names)) (are name) ∙ by (one name) refl (other name) (filter_both both one other are names)
  where
    by : (first : Bool) → one name ≡ first → (second : Bool) → filter both names ≡ filter one (filter other names)
        → cond (first && second) (name ∷ filter both names) (filter both names) ≡ filter one (cond second (name ∷ filter other names) (filter other names))
    by true is true rest = ap (λ (list : List Word). name ∷ list) rest ∙ sym (ap (λ (b : Bool). cond b (name ∷ filter one (filter other names)) (filter one (filter other names))) is)
    by true is false rest = rest
    by false is true rest = rest ∙ sym (ap (λ (b : Bool). cond b (name ∷ filter one (filter other names)) (filter one (filter other names))) is)
    by false is false rest = rest

filter_all : (names : List Word) → filter (λ name. true) names ≡ names
filter_all [] = refl
filter_all (name ∷ names) = ap (λ (list : List Word). name ∷ list) (filter_all names)

-- further claims add the names that have none
firsts_names : (firsts more : List First) → claimed_names (with_firsts firsts more) ≡ claimed_names firsts ++ filter (λ name. not (has_claim firsts name)) (each_once (claimed_names more))
firsts_names firsts [] = sym (append-nil (claimed_names firsts))
firsts_names firsts (further ∷ more) =
    let next = with_first firsts further.name further.claim in
    firsts_names next more
    ∙ ap (λ (list : List Word). claimed_names next ++ list)
    (filter_both (λ name. not (has_claim next name)) (λ name. not (has_claim firsts name)) (λ name. not (bytes_eq further.name name))
    (λ name. ap not (has_first_more firsts further.name further.claim name) ∙ turned (bytes_eq further.name name) (has_claim firsts name)) (each_once (claimed_names more)))
    ∙ by (has_claim firsts further.name) (filter (λ name. not (has_claim firsts name)) (filter (λ name. not (bytes_eq further.name name)) (each_once (claimed_names more))))
  where
    turned : (b had : Bool) → not (b || had) ≡ (not had && not b)
    turned true true = refl
    turned true false = refl
    turned false true = refl
    turned false false = refl

    by : (had : Bool) (rest : List Word) → claimed_names (if had then firsts else firsts ++ record { name = further.name; claim = further.claim } ∷ []) ++ rest
        ≡ claimed_names firsts ++ cond (not had) (further.name ∷ rest) rest
    by true rest = refl
    by false rest =
        ap (λ (names : List Word). names ++ rest) (map-append (λ (first : First). first.name) firsts (record { name = further.name; claim = further.claim } ∷ []))
        ∙ append_assoc (claimed_names firsts) (further.name ∷ []) rest

-- the names that items claim
items_names : (design : Design) (number before : ℕ) (items : List Item)
    → claimed_names (flat_map (λ entry. item_made design entry.number entry.before entry.item) (numbered number before items)) ≡ flat_map (claimed_by design) items
items_names design number before [] = refl
items_names design number before (item ∷ items) =
    map-append (λ (first : First). first.name) (item_made design number before item)
    (flat_map (λ (entry : Numbered). item_made design entry.number entry.before entry.item) (numbered (suc number) (and_behind item before) items))
    ∙ ap₂ (λ (one other : List Word). one ++ other) (made_names design number before item) (items_names design (suc number) (and_behind item before) items)

pub gathered_names : (design : Design) (model : Model)
    → claimed_names (with_item_claims design 0 0 model.items (ports_only model)).firsts ≡ each_once (claimed_before design (Some model) (length model.items))
gathered_names design model =
    let ports = map port_first (model.inputs ++ model.clocks) in
    let made = flat_map (λ (entry : Numbered). item_made design entry.number entry.before entry.item) (numbered 0 0 model.items) in
    let names = model.inputs ++ model.clocks in
    ap (λ (firsts : List First). claimed_names firsts) (items_firsts design 0 0 model.items (ports_only model) ∙ sym (with_firsts_append [] ports made))
    ∙ firsts_names [] (ports ++ made)
    ∙ filter_all (each_once (claimed_names (ports ++ made)))
    ∙ ap each_once (map-append (λ (first : First). first.name) ports made
    ∙ ap₂ (λ (one other : List Word). one ++ other) (ports_names names) (items_names design 0 0 model.items)
    ∙ ap (λ (items : List Item). names ++ flat_map (claimed_by design) items) (sym (take_all (length model.items) model.items (omega arith))))
