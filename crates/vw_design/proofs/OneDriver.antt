-- Where the names that each instance claims are all different, no net has two drivers.
use Rattle.std.proofs.Common.{◌≡◌, ℕ, suc, true, List, [], ◌∷◌, ◌++◌, take, drop, Option, Some, None, slice_get, if◌then◌else◌, flat_map, option_map, inl, inr, ⊎_elim, refl, sym, ◌∙◌, ap, subst, append_assoc}
use Rattle.std.proofs.lemmas.List.Concat.{flat_map-append}
use Rattle.std.proofs.lemmas.Option.{none-some}
use Rattle.vw_design.specs.declared.item.Item.{Item}
use Rattle.vw_design.specs.declared.model.Model.{Model}
use Rattle.vw_design.specs.declared.design.Design.{Design}
use Rattle.vw_design.specs.Distinct.{are_distinct}
use Rattle.vw_design.specs.Paths.{Word, Path, model_at, items_of}
use Rattle.vw_design.specs.Preorder.{Site, sites}
use Rattle.vw_design.specs.NetReads.{net_at}
use Rattle.vw_design.specs.NetFaults.{claimed_by, claimed_before, first_again, claimed_again, two_drivers}
use Rattle.vw_design.specs.PathValue.{item_at}
use Rattle.vw_net.proofs.FirstFound.{found_nowhere}
use Rattle.vw_design.proofs.ListElements.{Has, Has-at, Has-left}
use Rattle.vw_design.proofs.DistinctNames.{none_named, distinct_first, distinct_rest, distinct_front, distinct_back, distinct_apart}
use Rattle.vw_design.proofs.Sites.{site_item}
use Rattle.vw_design.proofs.ClaimedOnce.{cut_at}

-- the names that a model claims: its inputs and clocks, and what its items claim, one for each claim
abbrev pub claimed_names : Design → Model → List Word
claimed_names design model = (model.inputs ++ model.clocks) ++ flat_map (claimed_by design) model.items

-- of distinct names none stands twice, and none stands before where the two lists have no common name
pub none_again : (before names : List Word) → are_distinct names ≡ true → ((name : Word) → Has name before → Has name names → ⊥)
    → first_again before names ≡ None
none_again before [] all apart = refl
none_again before (name ∷ names) all apart =
    let fresh = none_named before name (λ has. apart name has (inl refl)) in
    ap (λ b. if b then Some name else first_again (name ∷ before) names) fresh
    ∙ none_again (name ∷ before) names (distinct_rest name names all)
    (λ other has later. ⊎_elim (λ same. distinct_first name names all (subst (λ (w : Word). Has w names) (sym same) later)) (λ earlier. apart other earlier (inr later)) has)

-- an item claims nothing again where all names that its model claims are different
pub none_again_at : (design : Design) (model : Model) → are_distinct (claimed_names design model) ≡ true → (k : ℕ) (item : Item)
    → slice_get model.items k ≡ Some item
    → first_again (claimed_before design (Some model) k) (claimed_by design item) ≡ None
none_again_at design model all k item at =
    let ports = model.inputs ++ model.clocks in
    let front = flat_map (claimed_by design) (take k model.items) in
    let mine = claimed_by design item in
    let rest = flat_map (claimed_by design) (drop (suc k) model.items) in
    let whole : claimed_names design model ≡ (ports ++ front) ++ (mine ++ rest) =
    ap (λ (ws : List Word). ports ++ ws) (ap (flat_map (claimed_by design)) (cut_at model.items k item at) ∙ flat_map-append (claimed_by design) (take k model.items) (item ∷ drop (suc k) model.items))
    ∙ sym (append_assoc ports front (mine ++ rest)) in
    let different : are_distinct ((ports ++ front) ++ (mine ++ rest)) ≡ true = ap are_distinct (sym whole) ∙ all in
    none_again (ports ++ front) mine (distinct_front mine rest (distinct_back (ports ++ front) (mine ++ rest) different))
    (λ name has has_too. distinct_apart (ports ++ front) (mine ++ rest) different name has (Has-left name mine rest has_too))

-- so no net of the design has two drivers
pub one_driver_each : (design : Design)
    → ((path : Path) (model : Model) → model_at design path ≡ Some model → are_distinct (claimed_names design model) ≡ true)
    → two_drivers design ≡ None
one_driver_each design all =
    found_nowhere (claimed_again design) (sites design) (λ k site at. by site (site_item design site (Has-at site (sites design) k at)) (model_at design site.path) refl)
  where
    by : (site : Site) → item_at design site.path site.number ≡ Some site.item → (found : Option Model) → model_at design site.path ≡ found
        → claimed_again design site ≡ None
    by site item None stands = absurd (none-some site.item (sym (ap (λ (m : Option Model). slice_get (items_of m) site.number) stands) ∙ item))
    by site item (Some model) stands =
        let at : slice_get model.items site.number ≡ Some site.item = sym (ap (λ (m : Option Model). slice_get (items_of m) site.number) stands) ∙ item in
        ap (λ (m : Option Model). option_map (net_at site.path) (first_again (claimed_before design m site.number) (claimed_by design site.item))) stands
        ∙ ap (option_map (net_at site.path)) (none_again_at design model (all site.path model stands) site.number site.item at)
