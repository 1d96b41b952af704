-- What the claims of a model by numbers say of the design.
use Rattle.std.specs.Prelude.{◌≡◌, ◌<◌, ℕ, not, List, [], ◌∷◌, length, map, filter, slice_get, Option, Some, None, option_map, option_and_then}
use Rattle.std.specs.Str.{bytes_eq}
use Rattle.vw_design.specs.declared.item.Bind.{Bind}
use Rattle.vw_design.specs.declared.item.Item.{Item}
use Rattle.vw_design.specs.declared.model.Model.{Model}
use Rattle.vw_design.specs.declared.design.Design.{Design}
use Rattle.vw_design.specs.Paths.{Word, placing_at, items_of}
use Rattle.vw_design.specs.Claims.{Claim as NamedClaim, port, driven, bound, first_claim}
use Rattle.vw_design.specs.NetFaults.{claimed_by, claimed_before, first_again}
use Rattle.vw_drivers.specs.declared.claim.Claim.{Claim}
use Rattle.vw_drivers.specs.declared.claim.Claim.TheVariants.{Port, Driven, Bound}
use Rattle.vw_drivers.specs.declared.claim.RepeatedClaim.{RepeatedClaim}
use Rattle.vw_drivers.specs.declared.model_claims.ModelClaims.{ModelClaims}
use Rattle.vw_drivers.specs.Firsts.{claim_named}

-- the binding with a number at a place of some items
abbrev pub bind_at : List Item → ℕ → ℕ → Option Bind
bind_at items place number = option_and_then (λ placing. slice_get placing.binds number) (placing_at items place)

-- the claim that is meant by numbers: the formal is that of the binding
abbrev pub meant : List Item → Claim → Option NamedClaim
meant items Port = Some port
meant items (Driven item) = Some (driven item)
meant items (Bound place number) = option_map (λ bind. bound place bind.formal) (bind_at items place number)

-- the name that an item claims again
abbrev pub again_at : Design → Option Model → ℕ → Item → Option Word
again_at design model number item = first_again (claimed_before design model number) (claimed_by design item)

-- the first item that claims again, with the name; none does where there is none
abbrev pub IsRepeatedClaim : Design → Option Model → Option RepeatedClaim → Type 0
IsRepeatedClaim design model None =
    (number : ℕ) (item : Item) → slice_get (items_of model) number ≡ Some item → again_at design model number item ≡ None
IsRepeatedClaim design model (Some again) =
    ((item : Item) × (slice_get (items_of model) again.item ≡ Some item) × (again_at design model again.item item ≡ Some again.name))
    × ((number : ℕ) (item : Item) → number < again.item → slice_get (items_of model) number ≡ Some item
    → again_at design model number item ≡ None)

-- each of some names once, where it first stands
abbrev pub each_once : List Word → List Word
each_once [] = []
each_once (name ∷ names) = name ∷ filter (λ other. not (bytes_eq name other)) (each_once names)

-- the names are those that ports and items claim, in the order in which they are first claimed; the first claim on each
-- is that of the design, and so is the first item that claims again
pub record AreClaims (design : Design) (model : Option Model) (claims : ModelClaims) : Type 0 where
  pub names : map (λ first. first.name) claims.firsts ≡ each_once (claimed_before design model (length (items_of model)))
  pub firsts : (name : Word) → option_map (meant (items_of model)) (claim_named claims.firsts name)
      ≡ option_map (λ claim. Some claim) (first_claim design model name)
  pub again : IsRepeatedClaim design model claims.again
