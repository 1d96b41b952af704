-- What tables of drivers say of a design.
use Rattle.std.specs.Prelude.{◌≡◌, ℕ, List, ◌∷◌, Option, Some, slice_get, is_none, option_and_then}
use Rattle.vw_design.specs.declared.item.Bind.{Bind}
use Rattle.vw_design.specs.declared.design.Design.{Design}
use Rattle.vw_design.specs.Paths.{Word, Path, model_at}
use Rattle.vw_design.specs.Claims.{port, first_claim}
use Rattle.vw_design.specs.Preorder.{instances}
use Rattle.vw_design.specs.Drivers.{driver}
use Rattle.vw_drivers.specs.Claimed.{bind_at}
use Rattle.vw_drivers.specs.Firsts.{number_named}
use Rattle.vw_drivers.specs.declared.drivers.Drivers.{Drivers}
use Rattle.vw_drivers.specs.declared.source.Source.{Source}
use Rattle.vw_drivers.specs.declared.tables.Tables.{Tables}
use Rattle.vw_drivers.specs.Sources.{source_of}
use Rattle.vw_drivers.specs.Tables.{root_firsts, instance_firsts}

-- an answer is the driver of each name of an instance on which the first claim has this number; and there is none exactly
-- where the net has no driver
pub record IsSource (design : Design) (tables : Tables) (instance : ℕ) (claim : Option ℕ) (source : Option Source) : Type 0 where
  pub is : (path : Path) (name : Word) → slice_get (instances design) instance ≡ Some path → claim ≡ number_named (instance_firsts tables instance) name
      → source ≡ source_of design (root_firsts tables) (driver design path name)
  pub none : (path : Path) (name : Word) → slice_get (instances design) instance ≡ Some path → claim ≡ number_named (instance_firsts tables instance) name
      → is_none source ≡ is_none (driver design path name)

-- what rows have at a number; nothing where they don't go so far
abbrev pub at_row : List (Option Source) → ℕ → Option Source
at_row row number = option_and_then (λ found. found) (slice_get row number)

abbrev pub at_rows : List (List (Option Source)) → ℕ → ℕ → Option Source
at_rows rows instance number = option_and_then (λ row. at_row row number) (slice_get rows instance)

-- the driver of a net by numbers
abbrev pub driver_by_numbers : Design → Tables → Path → Word → Option Source
driver_by_numbers design tables path name = source_of design (root_firsts tables) (driver design path name)

-- the row of an instance has, at the number of a binding of the item that places it, the driver of the formal, where that
-- is no port
abbrev pub HasOutputs : Design → Tables → List (List (Option Source)) → ℕ → Type 0
HasOutputs design tables rows instance =
    (place : ℕ) (path : Path) (number : ℕ) (bind : Bind) → slice_get (instances design) instance ≡ Some (place ∷ path)
    → option_and_then (λ model. bind_at model.items place number) (model_at design path) ≡ Some bind
    → (first_claim design (model_at design (place ∷ path)) bind.formal ≡ Some port → ⊥)
    → at_rows rows instance number ≡ driver_by_numbers design tables (place ∷ path) bind.formal

-- it has, at the number of the claim of a port, the driver of the port
abbrev pub HasPorts : Design → Tables → List (List (Option Source)) → ℕ → Type 0
HasPorts design tables rows instance =
    (place : ℕ) (path : Path) (name : Word) (number : ℕ) → slice_get (instances design) instance ≡ Some (place ∷ path)
    → first_claim design (model_at design (place ∷ path)) name ≡ Some port → number_named (instance_firsts tables instance) name ≡ Some number
    → at_rows rows instance number ≡ driver_by_numbers design tables (place ∷ path) name

-- the tables have the drivers of the formals that are bound
pub record AreDrivers (design : Design) (tables : Tables) (drivers : Drivers) : Type 0 where
  pub outputs : (instance : ℕ) → HasOutputs design tables drivers.outputs instance
  pub ports : (instance : ℕ) → HasPorts design tables drivers.ports instance
