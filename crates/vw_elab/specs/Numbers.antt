-- Instances, sites and drivers of a design by numbers. Source: this project.
use Rattle.std.specs.Prelude.{◌≡◌, ℕ, Option, Some, None, option_map, slice_get}
use Rattle.vw_design.specs.declared.design.Design.{Design}
use Rattle.vw_design.specs.Paths.{Path, model_at}
use Rattle.vw_design.specs.Drivers.{Source, at_port, at_cell}
use Rattle.vw_design.specs.Preorder.{instances, cells}
use Rattle.vw_design.specs.Clocks.{columns}
use Rattle.vw_design.specs.PathValue.{place_of_name, place_of_site}
use Rattle.vw_instances.specs.Tables.{IsPlacedBy}
use Rattle.vw_elab.specs.declared.driver.Driver.{Driver}
use Rattle.vw_elab.specs.declared.driver.Driver.TheVariants.{Column, Clock, Cell}
use Rattle.vw_elab.specs.declared.elaborated.Instance.{Instance}

-- the instance with a number, which is its place in preorder
pub record IsInstance (design : Design) (number : ℕ) (instance : Instance) : Type 0 where
  pub path : Path
  pub listed : slice_get (instances design) number ≡ Some path
  pub model : slice_get design.models instance.model ≡ model_at design path
  pub by : IsPlacedBy (instances design) number path instance.parent instance.place

-- a port of the root is a column, by its place among the columns, or else a clock port
abbrev pub of_port : Option ℕ → Driver
of_port None = Clock
of_port (Some column) = Column column

-- the number of a driver
abbrev pub driver_of : Design → Option Source → Option Driver
driver_of design None = None
driver_of design (Some (at_port name)) = Some (of_port (place_of_name (columns design) name))
driver_of design (Some (at_cell path item)) = option_map (λ number. Cell number) (place_of_site (cells design) path item)
