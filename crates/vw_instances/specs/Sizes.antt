-- What is answered of the sizes of a design.
use Rattle.std.specs.Prelude.{◌≡◌, ℕ, List, length, take, Some, None, slice_get}
use Rattle.vw_design.specs.declared.model.Model.{Model}
use Rattle.vw_design.specs.declared.design.Design.{Design}
use Rattle.vw_design.specs.Paths.{Path, model_at}
use Rattle.vw_design.specs.Limits.{instance_count, cell_count, too_big}
use Rattle.vw_design.specs.Counts.{placed_one, cell_one, items_weight, levels_below, model_weight}
use Rattle.vw_instances.specs.declared.sizes.Before.{Before}
use Rattle.vw_instances.specs.declared.sizes.Sizes.{Sizes}
use Rattle.vw_instances.specs.declared.sizes.Measured.{Measured}
use Rattle.vw_instances.specs.declared.sizes.Measured.TheVariants.{Fits, TooBig}
use Rattle.vw_instances.specs.Quantities.{counted_of}

-- one list for each model, and for each model that is reached how many cells and instances stand before each of its
-- items, counted with all that they place, at whatever path the model stands
pub record AreBefore (design : Design) (before : List (List Before)) : Type 0 where
  pub count : length before ≡ length design.models
  pub each : (path : Path) (model : Model) (number : ℕ) → model_at design path ≡ Some model → slice_get design.models number ≡ Some model
      → (entries : List Before) × (slice_get before number ≡ Some entries) × (length entries ≡ length model.items)
      × ((k : ℕ) (entry : Before) → slice_get entries k ≡ Some entry
      → (entry.cells ≡ items_weight cell_one (model_weight design cell_one (levels_below design path)) (take k model.items))
      × (entry.instances ≡ items_weight placed_one (model_weight design placed_one (levels_below design path)) (take k model.items)))

-- the sizes of a design without a quantity that is too big
pub record AreSizes (design : Design) (sizes : Sizes) : Type 0 where
  pub small : too_big design ≡ None
  pub instances : sizes.instances ≡ instance_count design
  pub cells : sizes.cells ≡ cell_count design
  pub before : AreBefore design sizes.before

-- its sizes, or the first quantity that is too big
abbrev pub IsMeasured : Design → Measured → Type 0
IsMeasured design (Fits sizes) = AreSizes design sizes
IsMeasured design (TooBig quantity) = too_big design ≡ Some (counted_of quantity)
