-- Tables of a design by numbers.
use Rattle.std.specs.Prelude.{◌≡◌, ℕ, List, length, slice_get, Some, option_map}
use Rattle.vw_design.specs.declared.model.Model.{Model}
use Rattle.vw_design.specs.declared.design.Design.{Design}
use Rattle.vw_drivers.specs.declared.model_claims.ModelClaims.{ModelClaims}
use Rattle.vw_drivers.specs.Firsts.{First}
use Rattle.vw_drivers.specs.Claimed.{AreClaims}
use Rattle.vw_instances.specs.Sizes.{AreBefore}
use Rattle.vw_drivers.specs.Names.{firsts_of, AreNames}
use Rattle.vw_instances.specs.Tables.{ArePlaced}
use Rattle.vw_drivers.specs.declared.tables.Tables.{Tables}

-- the claims of each model
pub record AreModelClaims (design : Design) (claims : List ModelClaims) : Type 0 where
  pub count : length claims ≡ length design.models
  pub each : (number : ℕ) (model : Model) → slice_get design.models number ≡ Some model
      → (found : ModelClaims) × (slice_get claims number ≡ Some found) × AreClaims design (Some model) found

-- the tables are those of the design
pub record AreDesignTables (design : Design) (tables : Tables) : Type 0 where
  pub placed : ArePlaced design tables.instances
  pub before : AreBefore design tables.before
  pub claims : AreModelClaims design tables.claims
  pub names : AreNames design tables.claims tables.names

-- the claimed names of the root, and of the model of an instance
abbrev pub root_firsts : Tables → List First
root_firsts tables = firsts_of tables.claims (Some 0)

abbrev pub instance_firsts : Tables → ℕ → List First
instance_firsts tables instance = firsts_of tables.claims (option_map (λ entry. entry.model) (slice_get tables.instances instance))
