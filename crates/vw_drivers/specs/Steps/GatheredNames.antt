-- How the `.subckt` items of a model are numbered, item by item. No public clause cites it.
use Rattle.std.specs.Prelude.{ℕ, suc, List, [], ◌∷◌, ◌++◌, map, slice_get, Option, option_and_then}
use Rattle.vw_design.specs.declared.item.Item.{Item}
use Rattle.vw_design.specs.declared.item.Item.TheVariants.{Names, Latch, Sub}
use Rattle.vw_design.specs.Claims.{and_behind}
use Rattle.vw_drivers.specs.declared.model_claims.ModelClaims.{ModelClaims}
use Rattle.vw_drivers.specs.Firsts.{First}
use Rattle.vw_drivers.specs.declared.model_names.PlacedNames.{PlacedNames}
use Rattle.vw_drivers.specs.Names.{firsts_of, way_of}

-- what the item with a number adds, where it places the model with a number
abbrev pub placed_made : List First → List ModelClaims → Option ℕ → ℕ → Item → List PlacedNames
placed_made own claims model number (Names line ins out cover) = []
placed_made own claims model number (Latch line d q edge control init) = []
placed_made own claims model number (Sub line name binds) = record { item = number; ways = map (way_of own (firsts_of claims model)) binds } ∷ []

-- what items from a number on add, behind so many `.subckt` items
abbrev pub placed_from : List First → List ModelClaims → List (Option ℕ) → ℕ → ℕ → List Item → List PlacedNames
placed_from own claims targets number before [] = []
placed_from own claims targets number before (item ∷ items) =
    placed_made own claims (option_and_then (λ target. target) (slice_get targets before)) number item
    ++ placed_from own claims targets (suc number) (and_behind item before) items
