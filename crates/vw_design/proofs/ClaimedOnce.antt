-- In an accepted design no net has two claims, and the net of a second claim has two.
use Rattle.std.proofs.Common.{◌≡◌, ◌≤◌, ◌+◌, ◌&&◌, ◌||◌, ℕ, zero, suc, Bool, true, false, List, [], ◌∷◌, ◌++◌, length, take, drop, length-append, append_assoc, append-nil, take_at, Option, Some, None, slice_get, if◌then◌else◌, flat_map, filter_map, option_map, refl, sym, ◌∙◌, ap, ap₂, subst, true≢false, arith}
use Rattle.std.specs.List.{cons_option}
use Rattle.std.specs.Str.{bytes_eq}
use Rattle.std.proofs.lemmas.Bool.{or_parts}
use Rattle.std.proofs.lemmas.List.Concat.{flat_map-append}
use Rattle.std.proofs.lemmas.List.Folds.{list_any-append}
use Rattle.std.proofs.lemmas.Option.{same_Some, none-some}
use Rattle.vw_design.specs.declared.item.Bind.{Bind}
use Rattle.vw_design.specs.declared.item.Item.{Item}
use Rattle.vw_design.specs.declared.item.Item.TheVariants.{Names, Latch, Sub}
use Rattle.vw_design.specs.declared.model.Model.{Model}
use Rattle.vw_design.specs.declared.design.Design.{Design}
use Rattle.vw_design.specs.Distinct.{has_name}
use Rattle.vw_design.specs.Paths.{Word, Path, Net, model_named, model_at, items_of, model_outputs, is_port}
use Rattle.vw_design.specs.Claims.{Numbered, and_behind, numbered, port, driven, bound, bind_claim, item_claims, claims}
use Rattle.vw_design.specs.Preorder.{Site, sites}
use Rattle.vw_design.specs.NetReads.{net_at}
use Rattle.vw_design.specs.NetFaults.{bound_actual, claimed_by, claimed_before, first_again, claimed_again, two_drivers}
use Rattle.vw_design.specs.PathValue.{item_at}
use Rattle.vw_design.specs.Accepted.{IsAccepted}
use Rattle.vw_design.proofs.ListElements.{none-found, from-found, Has-Contains}
use Rattle.vw_design.proofs.Sites.{site_item}
use Rattle.vw_design.proofs.Names.{same_name, name_same}
use Rattle.vw_design.proofs.PlacedInstances.{faultless_site}
use Rattle.vw_design.proofs.ListPlaces.{behind}
use Rattle.vw_net.specs.Steps.Bits.{one_if}

-- how often a name stands among names
abbrev times_named : Word → List Word → ℕ
times_named name [] = 0
times_named name (other ∷ names) = one_if (bytes_eq other name) + times_named name names

times_append : (name : Word) (one other : List Word) → times_named name (one ++ other) ≡ times_named name one + times_named name other
times_append name [] other = omega arith
times_append name (first ∷ one) other = omega (arith, times_append name one other)

-- an item has as many claims on a name as it claims it
bind_times : (design : Design) (outputs : List Word) (place : ℕ) (name : Word) (binds : List Bind)
    → length (filter_map (bind_claim outputs place name) binds) ≡ times_named name (filter_map (bound_actual outputs) binds)
bind_times design outputs place name [] = refl
bind_times design outputs place name (bind ∷ binds) = by (bytes_eq bind.actual name) refl (has_name outputs bind.formal) (bind_times design outputs place name binds) where
  by : (same : Bool) → bytes_eq bind.actual name ≡ same → (output : Bool)
      → length (filter_map (bind_claim outputs place name) binds) ≡ times_named name (filter_map (bound_actual outputs) binds)
      → length (cons_option (if same && output then Some (bound place bind.formal) else None) (filter_map (bind_claim outputs place name) binds))
      ≡ times_named name (cons_option (if output then Some bind.actual else None) (filter_map (bound_actual outputs) binds))
  by true is true rest = omega (arith, rest, ap one_if is)
  by true is false rest = rest
  by false is true rest = omega (arith, rest, ap one_if is)
  by false is false rest = rest

item_times : (design : Design) (name : Word) (number before : ℕ) (item : Item)
    → length (item_claims design name number before item) ≡ times_named name (claimed_by design item)
item_times design name number before (Names line ins out cover) = by (bytes_eq out name) where
  by : (b : Bool) → length (if b then driven number ∷ [] else []) ≡ one_if b + 0
  by true = omega arith
  by false = omega arith
item_times design name number before (Latch line d q edge control init) = by (bytes_eq q name) where
  by : (b : Bool) → length (if b then driven number ∷ [] else []) ≡ one_if b + 0
  by true = omega arith
  by false = omega arith
item_times design name number before (Sub line model binds) = bind_times design (model_outputs (model_named design.models model)) (suc before) name binds

-- all items claim it as often
items_times : (design : Design) (name : Word) (number before : ℕ) (items : List Item)
    → length (flat_map (λ entry. item_claims design name entry.number entry.before entry.item) (numbered number before items)) ≡ times_named name (flat_map (claimed_by design) items)
items_times design name number before [] = refl
items_times design name number before (item ∷ items) =
    let of_entry = λ (entry : Numbered). item_claims design name entry.number entry.before entry.item in
    let rest = flat_map of_entry (numbered (suc number) (and_behind item before) items) in
    omega (
      arith,
      length-append (item_claims design name number before item) rest,
      item_times design name number before item,
      items_times design name (suc number) (and_behind item before) items,
      times_append name (claimed_by design item) (flat_map (claimed_by design) items),
    )

-- a name that stands among names stands there at least once, and else not at all
has_times : (name : Word) (names : List Word) → one_if (has_name names name) ≤ times_named name names
has_times name [] = omega arith
has_times name (other ∷ names) = by (bytes_eq other name) (has_name names name) (has_times name names) where
  by : (here there : Bool) → one_if there ≤ times_named name names → one_if (here || there) ≤ one_if here + times_named name names
  by true there rest = omega arith
  by false there rest = omega (arith, rest)

times_has : (name : Word) (names : List Word) → has_name names name ≡ false → times_named name names ≡ 0
times_has name [] none = refl
times_has name (other ∷ names) none =
    let parts = or_parts (bytes_eq other name) (has_name names name) none in
    omega (arith, ap one_if parts.0, times_has name names parts.1)

-- where no name stands before or twice
none_again : (name : Word) (before names : List Word) → first_again before names ≡ None → one_if (has_name before name) + times_named name names ≤ 1
none_again name before [] none = by (has_name before name) where
  by : (b : Bool) → one_if b + 0 ≤ 1
  by true = omega arith
  by false = omega arith
none_again name before (first ∷ names) none = by (has_name before first) refl none (none_again name (first ∷ before) names) where
  further : (same had : Bool) → bytes_eq first name ≡ same → (same ≡ true → had ≡ false) → one_if (same || had) + times_named name names ≤ 1
      → one_if had + (one_if same + times_named name names) ≤ 1
  further true true is fresh rest = absurd (true≢false (fresh refl))
  further true false is fresh rest = omega (arith, rest)
  further false had is fresh rest = omega (arith, rest)

  by : (b : Bool) → has_name before first ≡ b → (if b then Some first else first_again (first ∷ before) names) ≡ None
      → (first_again (first ∷ before) names ≡ None → one_if (bytes_eq first name || has_name before name) + times_named name names ≤ 1)
      → one_if (has_name before name) + (one_if (bytes_eq first name) + times_named name names) ≤ 1
  by true is none rest = absurd (none-some first (sym none))
  by false is none rest =
      further (bytes_eq first name) (has_name before name) refl (λ same. ap (has_name before) (sym (same_name first name same)) ∙ is) (rest none)

-- a name that does stands there twice
some_again : (name : Word) (before names : List Word) → first_again before names ≡ Some name → 2 ≤ one_if (has_name before name) + times_named name names
some_again name before [] some = absurd (none-some name some)
some_again name before (first ∷ names) some = by (has_name before first) refl some (some_again name (first ∷ before) names) where
  further : (same had : Bool) → 2 ≤ one_if (same || had) + times_named name names → 2 ≤ one_if had + (one_if same + times_named name names)
  further true had rest = omega (arith, rest)
  further false had rest = omega (arith, rest)

  by : (b : Bool) → has_name before first ≡ b → (if b then Some first else first_again (first ∷ before) names) ≡ Some name
      → (first_again (first ∷ before) names ≡ Some name → 2 ≤ one_if (bytes_eq first name || has_name before name) + times_named name names)
      → 2 ≤ one_if (has_name before name) + (one_if (bytes_eq first name) + times_named name names)
  by true is some rest =
      let same : first ≡ name = same_Some first name some in
      omega (arith, ap one_if (ap (has_name before) (sym same) ∙ is), ap one_if (ap (λ (w : Word). bytes_eq w name) same ∙ name_same name))
  by false is some rest = further (bytes_eq first name) (has_name before name) (rest some)

-- a port is one claim, also where it stands in both lists
port_times : (model : Model) (name : Word) → length (if is_port model name then port ∷ [] else []) ≡ one_if (has_name (model.inputs ++ model.clocks) name)
port_times model name = by (is_port model name) ∙ ap one_if (sym (list_any-append (λ (other : Word). bytes_eq other name) model.inputs model.clocks)) where
  by : (b : Bool) → length (if b then port ∷ [] else []) ≡ one_if b
  by true = refl
  by false = refl

-- as many claims as a port, and what the items claim
pub claims_times : (design : Design) (model : Model) (name : Word)
    → length (claims design model name) ≡ one_if (has_name (model.inputs ++ model.clocks) name) + times_named name (flat_map (claimed_by design) model.items)
claims_times design model name =
    let ports = if is_port model name then port ∷ [] else [] in
    let rest = flat_map (λ (entry : Numbered). item_claims design name entry.number entry.before entry.item) (numbered 0 0 model.items) in
    omega (arith, length-append ports rest, port_times model name, items_times design name 0 0 model.items)

has_append : (one other : List Word) (name : Word) → has_name (one ++ other) name ≡ (has_name one name || has_name other name)
has_append one other name = list_any-append (λ (w : Word). bytes_eq w name) one other

module _ (design : Design) (name : Word) where
  -- items behind a front, none of which claims again: what the ports and the front claim counts once
  few : (ports : List Word) (front items : List Item)
      → ((k : ℕ) (item : Item) → slice_get (front ++ items) k ≡ Some item → first_again (ports ++ flat_map (claimed_by design) (take k (front ++ items))) (claimed_by design item) ≡ None)
      → one_if (has_name (ports ++ flat_map (claimed_by design) front) name) + times_named name (flat_map (claimed_by design) items) ≤ 1
  few ports front [] none = by (has_name (ports ++ flat_map (claimed_by design) front) name) where
    by : (b : Bool) → one_if b + 0 ≤ 1
    by true = omega arith
    by false = omega arith
  few ports front (item ∷ items) none =
      let done = ports ++ flat_map (claimed_by design) front in
      let here : first_again done (claimed_by design item) ≡ None =
      ap (λ (list : List Item). first_again (ports ++ flat_map (claimed_by design) list) (claimed_by design item)) (sym (take_at front (item ∷ items) (length front) refl))
      ∙ none (length front) item (behind front (item ∷ items)) in
      let whole : (front ++ item ∷ []) ++ items ≡ front ++ item ∷ items = append_assoc front (item ∷ []) items in
      let rest = few ports (front ++ item ∷ []) items (λ k other at.
      ap (λ (list : List Item). first_again (ports ++ flat_map (claimed_by design) (take k list)) (claimed_by design other)) whole ∙ none k other (ap (λ (list : List Item). slice_get list k) (sym whole) ∙ at)) in
      let more : ports ++ flat_map (claimed_by design) (front ++ item ∷ []) ≡ done ++ claimed_by design item =
      ap (λ (list : List Word). ports ++ list) (flat_map-append (claimed_by design) front (item ∷ []) ∙ ap (λ (list : List Word). flat_map (claimed_by design) front ++ list) (append-nil (claimed_by design item)))
      ∙ sym (append_assoc ports (flat_map (claimed_by design) front) (claimed_by design item)) in
      let had : has_name (ports ++ flat_map (claimed_by design) (front ++ item ∷ [])) name ≡ (has_name done name || has_name (claimed_by design item) name) =
      ap (λ (list : List Word). has_name list name) more ∙ has_append done (claimed_by design item) name in
      by (has_name done name) (has_name (claimed_by design item) name) refl
      (none_again name done (claimed_by design item) here) (subst (λ (b : Bool). one_if b + times_named name (flat_map (claimed_by design) items) ≤ 1) had rest)
    where
      by : (before now : Bool) → has_name (claimed_by design item) name ≡ now
          → one_if before + times_named name (claimed_by design item) ≤ 1
          → one_if (before || now) + times_named name (flat_map (claimed_by design) items) ≤ 1
          → one_if before + times_named name (flat_map (claimed_by design) (item ∷ items)) ≤ 1
      by true now is here rest = omega (arith, here, rest, times_append name (claimed_by design item) (flat_map (claimed_by design) items))
      by false true is here rest = omega (arith, here, rest, times_append name (claimed_by design item) (flat_map (claimed_by design) items))
      by false false is here rest =
          omega (arith, rest, times_has name (claimed_by design item) is, times_append name (claimed_by design item) (flat_map (claimed_by design) items))

-- an item of an instance that claims nothing again, where no claim is a second one
none_at : (design : Design) → IsAccepted design → (path : Path) (model : Model) → model_at design path ≡ Some model → (k : ℕ) (item : Item)
    → slice_get model.items k ≡ Some item
    → first_again (claimed_before design (Some model) k) (claimed_by design item) ≡ None
none_at design accepted path model stands k item at =
    let here : item_at design path k ≡ Some item = ap (λ (m : Option Model). slice_get (items_of m) k) stands ∙ at in
    let site = faultless_site design accepted.models path k item here in
    let fine : claimed_again design site.0 ≡ None = none-found (claimed_again design) site.0 (sites design) accepted.one_driver (Has-Contains site.0 (sites design) site.1) in
    let again = nothing site.0.path (first_again (claimed_before design (model_at design site.0.path) site.0.number) (claimed_by design site.0.item)) fine in
    let where_ : claimed_before design (model_at design site.0.path) site.0.number ≡ claimed_before design (Some model) k =
    ap₂ (λ (p : Path) (n : ℕ). claimed_before design (model_at design p) n) site.2 site.3 ∙ ap (λ (m : Option Model). claimed_before design m k) stands in
    ap₂ (λ (before : List Word) (i : Item). first_again before (claimed_by design i)) (sym where_) (sym site.4) ∙ again
  where
    nothing : (path : Path) (found : Option Word) → option_map (net_at path) found ≡ None → found ≡ None
    nothing path None none = refl
    nothing path (Some name) none = absurd (none-some (net_at path name) (sym none))

-- no net has two claims
pub claimed_once : (design : Design) → IsAccepted design → (path : Path) (model : Model) → model_at design path ≡ Some model → (name : Word)
    → length (claims design model name) ≤ 1
claimed_once design accepted path model stands name =
    let counted = few design name (model.inputs ++ model.clocks) [] model.items (none_at design accepted path model stands) in
    let none : has_name ((model.inputs ++ model.clocks) ++ []) name ≡ has_name (model.inputs ++ model.clocks) name = ap (λ (list : List Word). has_name list name) (append-nil (model.inputs ++ model.clocks)) in
    omega (arith, claims_times design model name, counted, ap one_if none)

-- a list cut at an element
pub cut_at : {A : Type 0} (xs : List A) (k : ℕ) (x : A) → slice_get xs k ≡ Some x → xs ≡ take k xs ++ x ∷ drop (suc k) xs
cut_at [] k x at = absurd (none-some x at)
cut_at {A} (y ∷ ys) zero x at = ap (λ (z : A). z ∷ ys) (same_Some y x at)
cut_at {A} (y ∷ ys) (suc k) x at = ap (λ (zs : List A). y ∷ zs) (cut_at ys k x at)

-- what an item claims again has two claims
twice : (design : Design) (model : Model) (k : ℕ) (item : Item) → slice_get model.items k ≡ Some item → (name : Word)
    → first_again (claimed_before design (Some model) k) (claimed_by design item) ≡ Some name
    → 2 ≤ length (claims design model name)
twice design model k item at name again =
    let ports = model.inputs ++ model.clocks in
    let front = flat_map (claimed_by design) (take k model.items) in
    let rest = flat_map (claimed_by design) (drop (suc k) model.items) in
    let counted : flat_map (claimed_by design) model.items ≡ front ++ (claimed_by design item ++ rest) =
    ap (flat_map (claimed_by design)) (cut_at model.items k item at) ∙ flat_map-append (claimed_by design) (take k model.items) (item ∷ drop (suc k) model.items) in
    let two = some_again name (ports ++ front) (claimed_by design item) again in
    omega (
      arith,
      claims_times design model name,
      ap (times_named name) counted,
      times_append name front (claimed_by design item ++ rest),
      times_append name (claimed_by design item) rest,
      two,
      by (has_name ports name) (has_name front name) (has_append ports front name) (has_times name front),
    )
  where
    by : (left right : Bool) → has_name ((model.inputs ++ model.clocks) ++ flat_map (claimed_by design) (take k model.items)) name ≡ (left || right)
        → one_if right ≤ times_named name (flat_map (claimed_by design) (take k model.items))
        → one_if (has_name ((model.inputs ++ model.clocks) ++ flat_map (claimed_by design) (take k model.items)) name) ≤ one_if left + times_named name (flat_map (claimed_by design) (take k model.items))
    by true right is at_least = omega (arith, ap one_if is)
    by false right is at_least = omega (arith, ap one_if is, at_least)

-- the net of a second claim has two
pub claimed_twice : (design : Design) (net : Net) → two_drivers design ≡ Some net
    → (model : Model) × (model_at design net.path ≡ Some model) × (2 ≤ length (claims design model net.name))
claimed_twice design net found =
    let site = from-found (claimed_again design) net (sites design) found in
    by site.0 (site_item design site.0 site.1) (model_at design site.0.path) refl
    (first_again (claimed_before design (model_at design site.0.path) site.0.number) (claimed_by design site.0.item)) refl site.2
  where
    by : (site : Site) → item_at design site.path site.number ≡ Some site.item → (found : Option Model) → model_at design site.path ≡ found
        → (again : Option Word) → first_again (claimed_before design (model_at design site.path) site.number) (claimed_by design site.item) ≡ again
        → option_map (net_at site.path) again ≡ Some net
        → (model : Model) × (model_at design net.path ≡ Some model) × (2 ≤ length (claims design model net.name))
    by site item found stands None is net_is = absurd (none-some net net_is)
    by site item None stands (Some name) is net_is = absurd (none-some site.item (sym (ap (λ (m : Option Model). slice_get (items_of m) site.number) stands) ∙ item))
    by site item (Some model) stands (Some name) is net_is =
        let same : net_at site.path name ≡ net = same_Some (net_at site.path name) net net_is in
        let at : slice_get model.items site.number ≡ Some site.item = sym (ap (λ (m : Option Model). slice_get (items_of m) site.number) stands) ∙ item in
        let again : first_again (claimed_before design (Some model) site.number) (claimed_by design site.item) ≡ Some name =
        ap (λ (m : Option Model). first_again (claimed_before design m site.number) (claimed_by design site.item)) (sym stands) ∙ is in
        subst (λ (n : Net). (model : Model) × (model_at design n.path ≡ Some model) × (2 ≤ length (claims design model n.name))) same
        (model, stands, twice design model site.number site.item at name again)
