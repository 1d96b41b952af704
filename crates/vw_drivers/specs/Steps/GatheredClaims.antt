-- How the claims of a model are gathered, item by item.
use Rattle.std.specs.Prelude.{ℕ, Bool, suc, List, [], ◌∷◌, ◌++◌, map, slice_get, Option, Some, None, if◌then◌else◌}
use Rattle.std.specs.List.{list_any}
use Rattle.std.specs.Option.{option_or, unwrap_or}
use Rattle.std.specs.Str.{bytes_eq}
use Rattle.vw_design.specs.declared.item.Bind.{Bind}
use Rattle.vw_design.specs.declared.item.Item.{Item}
use Rattle.vw_design.specs.declared.item.Item.TheVariants.{Names, Latch, Sub}
use Rattle.vw_design.specs.declared.model.Model.{Model}
use Rattle.vw_design.specs.declared.design.Design.{Design}
use Rattle.vw_design.specs.Distinct.{has_name}
use Rattle.vw_design.specs.Paths.{Word, model_named, model_outputs}
use Rattle.vw_design.specs.Claims.{and_behind}
use Rattle.vw_design.specs.ModelNumbers.{IsNumberOfModel}
use Rattle.vw_drivers.specs.declared.claim.Claim.{Claim}
use Rattle.vw_drivers.specs.declared.claim.Claim.TheVariants.{Port, Driven, Bound}
use Rattle.vw_drivers.specs.declared.model_claims.ModelClaims.{ModelClaims}
use Rattle.vw_drivers.specs.Firsts.{First}

-- whether a name is claimed
abbrev pub has_claim : List First → Word → Bool
has_claim firsts name = list_any (λ first. bytes_eq first.name name) firsts

-- a further claim is kept where it is the first on its name
abbrev pub with_first : List First → Word → Claim → List First
with_first firsts name claim = if has_claim firsts name then firsts else firsts ++ record { name = name; claim = claim } ∷ []

abbrev pub with_firsts : List First → List First → List First
with_firsts firsts [] = firsts
with_firsts firsts (further ∷ more) = with_firsts (with_first firsts further.name further.claim) more

-- the claim of a port
abbrev pub port_first : Word → First
port_first name = record { name = name; claim = Port }

-- the outputs of the model with a number; none where there is no number
abbrev pub model_outputs_at : List (List Word) → Option ℕ → List Word
model_outputs_at outputs None = []
model_outputs_at outputs (Some number) = unwrap_or (slice_get outputs number) []

-- what bindings claim, from a number on: those of these outputs
abbrev pub binds_made : List Word → ℕ → ℕ → List Bind → List First
binds_made outputs place number [] = []
binds_made outputs place number (bind ∷ binds) =
    if has_name outputs bind.formal
    then record { name = bind.actual; claim = Bound place number } ∷ binds_made outputs place (suc number) binds
    else binds_made outputs place (suc number) binds

-- what an item claims
abbrev pub item_made : Design → ℕ → ℕ → Item → List First
item_made design number before (Names line ins out cover) = record { name = out; claim = Driven number } ∷ []
item_made design number before (Latch line d q edge control init) = record { name = q; claim = Driven number } ∷ []
item_made design number before (Sub line model binds) = binds_made (model_outputs (model_named design.models model)) (suc before) 0 binds

-- a further claim of an item, which claims again where the name is claimed already
abbrev pub with_claim : ℕ → Word → Claim → ModelClaims → ModelClaims
with_claim item name claim claims = record {
  firsts = with_first claims.firsts name claim;
  again = if has_claim claims.firsts name then option_or claims.again (Some (record { item = item; name = name })) else claims.again;
}

abbrev pub with_first_claims : ℕ → List First → ModelClaims → ModelClaims
with_first_claims item [] claims = claims
with_first_claims item (further ∷ more) claims = with_first_claims item more (with_claim item further.name further.claim claims)

-- items from a number on
abbrev pub with_item_claims : Design → ℕ → ℕ → List Item → ModelClaims → ModelClaims
with_item_claims design number before [] claims = claims
with_item_claims design number before (item ∷ items) claims =
    with_item_claims design (suc number) (and_behind item before) items (with_first_claims number (item_made design number before item) claims)

-- the ports alone
abbrev pub ports_only : Model → ModelClaims
ports_only model = record {
  firsts = with_firsts [] (map port_first (model.inputs ++ model.clocks));
  again = None;
}

-- the number of what an item places
abbrev pub IsModelNumber : Design → Item → Option ℕ → Type 0
IsModelNumber design (Names line ins out cover) target = Unit {0}
IsModelNumber design (Latch line d q edge control init) target = Unit {0}
IsModelNumber design (Sub line model binds) target = IsNumberOfModel design model target
