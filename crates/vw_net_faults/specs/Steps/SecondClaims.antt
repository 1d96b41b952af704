-- Items that claim a name again, by their places in preorder.
use Rattle.std.specs.Prelude.{◌≡◌, ◌≤◌, ◌<◌, ◌+◌, ℕ, Bool, true, false, slice_get, nat_lt, Option, Some, None, option_map, option_and_then}
use Rattle.vw_design.specs.declared.item.Item.{Item}
use Rattle.vw_design.specs.declared.design.Design.{Design}
use Rattle.vw_design.specs.Paths.{Word, Path, model_at}
use Rattle.vw_design.specs.PathValue.{item_at, place_of_site}
use Rattle.vw_design.specs.Preorder.{instances, sites}
use Rattle.vw_drivers.specs.declared.claim.RepeatedClaim.{RepeatedClaim}
use Rattle.vw_drivers.specs.Claimed.{again_at}
use Rattle.vw_drivers.specs.declared.tables.Tables.{Tables}
use Rattle.vw_net_faults.specs.declared.two_drivers.Second.{Second}

-- the first item of the model of an instance that claims again, and the place of an item of an instance, by the tables
abbrev pub again_by : Tables → ℕ → Option RepeatedClaim
again_by tables instance =
    option_and_then (λ entry. option_and_then (λ claims. claims.again) (slice_get tables.claims entry.model)) (slice_get tables.instances instance)

abbrev pub position_by : Tables → ℕ → ℕ → Option ℕ
position_by tables instance item =
    option_and_then (λ entry. option_and_then (λ list. option_map (λ before. entry.cells + instance + (before.cells + before.instances)) (slice_get list item)) (slice_get tables.before entry.model)) (slice_get tables.instances instance)

-- an item of an instance, with its place in preorder, claims a name again
pub record IsClaimedAt (design : Design) (path : Path) (number position : ℕ) (name : Word) : Type 0 where
  pub item : Item
  pub item_is : item_at design path number ≡ Some item
  pub again : again_at design (model_at design path) number item ≡ Some name
  pub place : place_of_site (sites design) path number ≡ Some position

-- each item of an instance that claims again comes from a place on
abbrev pub AreFrom : Design → Path → ℕ → Type 0
AreFrom design path least = (number position : ℕ) (name : Word) → IsClaimedAt design path number position name → least ≤ position

abbrev pub AreNone : Design → Path → Type 0
AreNone design path = (number position : ℕ) (name : Word) → IsClaimedAt design path number position name → ⊥

-- some item of an instance, at the place that was found, claims the name again
abbrev pub HasClaimAt : Design → Path → Second → Type 0
HasClaimAt design path second = ∥ ((number : ℕ) × IsClaimedAt design path number second.position second.name.now) ∥₁

-- the first item of an instance that claims again, if there is one
abbrev pub IsSecondAt : Design → Path → ℕ → Option Second → Type 0
IsSecondAt design path instance None = AreNone design path
IsSecondAt design path instance (Some second) =
    (second.instance ≡ instance) × HasClaimAt design path second × AreFrom design path second.position

-- the first one of so many instances
abbrev pub IsFirstSecond : Design → ℕ → Option Second → Type 0
IsFirstSecond design count None = (instance : ℕ) (path : Path) → instance < count → slice_get (instances design) instance ≡ Some path → AreNone design path
IsFirstSecond design count (Some second) =
    ((path : Path) × (slice_get (instances design) second.instance ≡ Some path) × HasClaimAt design path second)
    × ((instance : ℕ) (path : Path) → instance < count → slice_get (instances design) instance ≡ Some path → AreFrom design path second.position)

-- whether an item is there and comes before another one
abbrev pub is_earlier : Option Second → Option Second → Bool
is_earlier None first = false
is_earlier (Some found) None = true
is_earlier (Some found) (Some first) = nat_lt found.position first.position
