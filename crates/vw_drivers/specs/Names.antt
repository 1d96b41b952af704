-- What the names of a model's items are by numbers. Source: this project.
use Rattle.std.specs.Prelude.{◌≡◌, ℕ, List, [], ◌++◌, length, map, take, slice_get, Option, Some, None, option_map}
use Rattle.std.specs.Option.{unwrap_or}
use Rattle.vw_design.specs.declared.item.Bind.{Bind}
use Rattle.vw_design.specs.declared.item.Item.{Item}
use Rattle.vw_design.specs.declared.item.Item.TheVariants.{Sub}
use Rattle.vw_design.specs.declared.model.Model.{Model}
use Rattle.vw_design.specs.declared.design.Design.{Design}
use Rattle.vw_design.specs.Paths.{Word, Placing, placings, model_named}
use Rattle.vw_design.specs.NetReads.{data_of, controls_of}
use Rattle.vw_drivers.specs.declared.claim.Claim.{Claim}
use Rattle.vw_drivers.specs.declared.claim.Claim.TheVariants as claims
use Rattle.vw_drivers.specs.declared.model_claims.ModelClaims.{ModelClaims}
use Rattle.vw_drivers.specs.Firsts.{First, number_named, claim_named}
use Rattle.vw_drivers.specs.declared.model_names.Way.{Way}
use Rattle.vw_drivers.specs.declared.model_names.Way.TheVariants.{Output, Port}
use Rattle.vw_drivers.specs.declared.model_names.PlacedNames.{PlacedNames}
use Rattle.vw_drivers.specs.declared.model_names.ModelNames.{ModelNames}

-- the names that an item reads: data first, and then the control
abbrev pub reads_of : Item → List Word
reads_of item = data_of item ++ controls_of item

-- the claimed names of the model with a number; none where there is no number
abbrev pub firsts_of : List ModelClaims → Option ℕ → List First
firsts_of claims None = []
firsts_of claims (Some number) = unwrap_or (option_map (λ found. found.firsts) (slice_get claims number)) []

-- the way from a formal, by the number and the kind of the first claim on it in the placed model, and by the number of
-- the first claim on its actual
abbrev pub way_by : Option ℕ → Option Claim → Option ℕ → Way
way_by None claim actual = Output None
way_by (Some number) None actual = Output (Some number)
way_by (Some number) (Some claims.Port) actual = Port number actual
way_by (Some number) (Some (claims.Driven item)) actual = Output (Some number)
way_by (Some number) (Some (claims.Bound place bind)) actual = Output (Some number)

abbrev pub way_of : List First → List First → Bind → Way
way_of own placed bind = way_by (number_named placed bind.formal) (claim_named placed bind.formal) (number_named own bind.actual)

-- the numbers of a `.subckt` item, behind so many others
pub record IsPlacedNames (design : Design) (claims : List ModelClaims) (own : List First) (items : List Item) (before : ℕ) (placing : Placing) (entry : PlacedNames) : Type 0 where
  pub line : ℕ
  pub item_is : slice_get items entry.item ≡ Some (Sub line placing.model placing.binds)
  pub before_is : length (placings (take entry.item items)) ≡ before
  pub ways : (number : ℕ) → slice_get design.models number ≡ model_named design.models placing.model
      → entry.ways ≡ map (way_of own (firsts_of claims (Some number))) placing.binds

-- the numbers of all items of a model with these claims
pub record AreModelNames (design : Design) (claims : List ModelClaims) (own : List First) (items : List Item) (names : ModelNames) : Type 0 where
  pub reads : names.reads ≡ map (λ item. map (number_named own) (reads_of item)) items
  pub count : length names.placed ≡ length (placings items)
  pub placed : (before : ℕ) (placing : Placing) → slice_get (placings items) before ≡ Some placing
      → (entry : PlacedNames) × (slice_get names.placed before ≡ Some entry) × IsPlacedNames design claims own items before placing entry

-- those of all models
pub record AreNames (design : Design) (claims : List ModelClaims) (names : List ModelNames) : Type 0 where
  pub count : length names ≡ length design.models
  pub each : (number : ℕ) (model : Model) → slice_get design.models number ≡ Some model
      → (found : ModelNames) × (slice_get names number ≡ Some found) × AreModelNames design claims (firsts_of claims (Some number)) model.items found
