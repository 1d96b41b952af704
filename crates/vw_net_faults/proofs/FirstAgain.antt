-- The first item of all that claims a name again.
use Rattle.std.proofs.Common.{◌≡◌, ◌<◌, ◌≤◌, ◌+◌, ℕ, true, false, length, Option, Some, None, slice_get, option_map, ⊎_elim, refl, sym, ◌∙◌, ap, ap₂, subst, true≢false, arith}
use Rattle.std.proofs.lemmas.Bool.{cases_lt, ltb-true, ltb-false}
use Rattle.std.proofs.lemmas.Option.{same_Some, slice_get_within}
use Rattle.std.proofs.Props.{props}
use mathlib.Core.Logic.{∥∥₁_elim}
use Rattle.vw_design.specs.declared.design.Design.{Design}
use Rattle.vw_design.specs.declared.item.Item.{Item}
use Rattle.vw_design.specs.declared.model.Model.{Model}
use Rattle.vw_design.specs.Accepted.{HasNoModelFault}
use Rattle.vw_design.specs.Claims.{numbered}
use Rattle.vw_net.proofs.FirstFound.{found_at, found_nowhere}
use Rattle.vw_design.specs.NetFaults.{claimed_again, two_drivers}
use Rattle.vw_design.specs.Paths.{Word, Path, model_at, items_of}
use Rattle.vw_design.specs.PathValue.{item_at}
use Rattle.vw_design.specs.Preorder.{Site, instances, sites}
use Rattle.vw_design.specs.NetReads.{net_at}
use Rattle.vw_design.proofs.FlatValues.{site_of_place}
use Rattle.vw_design.proofs.ListElements.{Has, Has-at, at-Has, Has-Contains}
use Rattle.vw_design.proofs.SitesOnce.{site_once}
use Rattle.vw_design.proofs.PlacedInstances.{faultless_listed}
use Rattle.vw_design.proofs.Sites.{site_is, site_item}
use Rattle.vw_drivers.specs.Claimed.{again_at}
use Rattle.vw_net_faults.specs.declared.two_drivers.Second.{Second}
use Rattle.vw_net_faults.specs.Nets.{printed_net}
use Rattle.vw_net_faults.specs.Steps.SecondClaims.{is_earlier, IsClaimedAt, AreFrom, AreNone, IsSecondAt, IsFirstSecond}

-- one more instance
module _ (design : Design) (i : ℕ) (path : Path) (listed : slice_get (instances design) i ≡ Some path) where
  -- what holds of those so far and of this one holds of one more
  one_more : (P : Path → Type 0) → ((k : ℕ) (other : Path) → k < i → slice_get (instances design) k ≡ Some other → P other) → P path
      → (k : ℕ) (other : Path) → k < i + 1 → slice_get (instances design) k ≡ Some other → P other
  one_more P before here k other below at = ⊎_elim
      (λ less. before k other less at)
      (λ past.
      let same : i ≡ k = omega arith in
      subst P (same_Some path other (sym listed ∙ ap (slice_get (instances design)) same ∙ at)) here)
      (cases_lt k i)

  -- where another one comes first
  pub taken : (found first : Option Second) → IsSecondAt design path i found → IsFirstSecond design i first → is_earlier found first ≡ true
      → IsFirstSecond design (i + 1) found
  taken None first is had earlier = absurd (true≢false (sym earlier))
  taken (Some found) None is had earlier = (
    (path, ap (slice_get (instances design)) is.0 ∙ listed, is.1),
    one_more (λ other. AreFrom design other found.position) (λ k other below at number position name claimed. absurd (had k other below at number position name claimed)) is.2,
  )
  taken (Some found) (Some first) is had earlier = (
    (path, ap (slice_get (instances design)) is.0 ∙ listed, is.1),
    one_more (λ other. AreFrom design other found.position)
        (λ k other below at number position name claimed.
        let less : found.position < first.position = ltb-true found.position first.position earlier in
        let least : first.position ≤ position = had.1 k other below at number position name claimed in
        omega arith)
        is.2,
  )

  -- where none does
  pub kept : (found first : Option Second) → IsSecondAt design path i found → IsFirstSecond design i first → is_earlier found first ≡ false
      → IsFirstSecond design (i + 1) first
  kept None None is had later = one_more (λ other. AreNone design other) had is
  kept None (Some first) is had later = (
    had.0,
    one_more (λ other. AreFrom design other first.position) had.1 (λ number position name claimed. absurd (is number position name claimed)),
  )
  kept (Some found) None is had later = absurd (true≢false later)
  kept (Some found) (Some first) is had later = (
    had.0,
    one_more (λ other. AreFrom design other first.position) had.1
        (λ number position name claimed.
        let less : first.position ≤ found.position = ltb-false found.position first.position later in
        let least : found.position ≤ position = is.2 number position name claimed in
        omega arith),
  )

-- the claim at a site
module _ (design : Design) (faultless : HasNoModelFault design) where
  model_of : (site : Site) → Has site (sites design) → (model : Model) × (model_at design site.path ≡ Some model)
  model_of site has = by (model_at design site.path) refl where
    by : (found : Option Model) → model_at design site.path ≡ found → (model : Model) × (found ≡ Some model)
    by None none =
        let is = site_is design site has in
        absurd (subst (λ (m : Option Model). Has is.entry (numbered 0 0 (items_of m))) none is.has)
    by (Some model) some = (model, refl)

  instance_of : (site : Site) → Has site (sites design) → (k : ℕ) × (slice_get (instances design) k ≡ Some site.path)
  instance_of site has =
      let model = model_of site has in
      at-Has site.path (instances design) (Has-Contains site.path (instances design) (faultless_listed design faultless site.path model.0 model.1))

  claimed_at : (q : ℕ) (site : Site) → slice_get (sites design) q ≡ Some site → (name : Word)
      → again_at design (model_at design site.path) site.number site.item ≡ Some name → IsClaimedAt design site.path site.number q name
  claimed_at q site at name again = record {
    item = site.item;
    item_is = site_item design site (Has-at site (sites design) q at);
    again = again;
    place = site_once design q site at;
  }

  no_claim : (site : Site) → ((name : Word) → again_at design (model_at design site.path) site.number site.item ≡ Some name → ⊥)
      → claimed_again design site ≡ None
  no_claim site none = by (again_at design (model_at design site.path) site.number site.item) none where
    by : (found : Option Word) → ((name : Word) → found ≡ Some name → ⊥) → option_map (net_at site.path) found ≡ None
    by None none = refl
    by (Some name) none = absurd (none name refl)

  module _ (count : ℕ) (all : count ≡ length (instances design)) where
    below : (k : ℕ) (path : Path) → slice_get (instances design) k ≡ Some path → k < count
    below k path at = omega (arith, all, slice_get_within (instances design) k path at)

    pub nothing_again : IsFirstSecond design count None → None ≡ printed_net (two_drivers design)
    nothing_again is = sym (ap printed_net (found_nowhere (claimed_again design) (sites design)
        (λ q site at. no_claim site (λ name again.
        let instance = instance_of site (Has-at site (sites design) q at) in
        is instance.0 site.path (below instance.0 site.path instance.1) instance.1 site.number q name (claimed_at q site at name again)))))

    pub first_again_is : (second : Second) → (is : IsFirstSecond design count (Some second)) → two_drivers design ≡ Some (net_at is.0.0 second.name.now)
    first_again_is second is = ∥∥₁_elim is.0.2 (hlevel props) (λ found.
        let path = is.0.0 in
        let number = found.0 in
        let claimed : IsClaimedAt design path number second.position second.name.now = found.1 in
        let site = site_of_place (sites design) path number second.position claimed.place in
        let item = same_Some site.0.item claimed.item (sym (site_item design site.0 (Has-at site.0 (sites design) second.position site.1)) ∙ ap₂ (item_at design) site.2 site.3 ∙ claimed.item_is) in
        let again : claimed_again design site.0 ≡ Some (net_at path second.name.now) =
        ap (λ (p : Path). option_map (net_at p) (again_at design (model_at design p) site.0.number site.0.item)) site.2
        ∙ ap₂ (λ (n : ℕ) (x : Item). option_map (net_at path) (again_at design (model_at design path) n x)) site.3 item ∙ ap (option_map (net_at path)) claimed.again in
        found_at (claimed_again design) (sites design) second.position site.0 (net_at path second.name.now) site.1 again
        (λ q other less at. no_claim other (λ name repeated.
        let instance = instance_of other (Has-at other (sites design) q at) in
        let least : second.position ≤ q = is.1 instance.0 other.path (below instance.0 other.path instance.1) instance.1 other.number q name (claimed_at q other at name repeated) in
        absurd (omega arith))))
