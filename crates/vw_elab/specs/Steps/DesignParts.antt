-- The tables of a design.
use Rattle.vw_design.specs.declared.design.Design.{Design}
use Rattle.vw_design.specs.Accepted.{HasNoModelFault, IsAccepted}
use Rattle.vw_instances.specs.Tables.{AreCellSites}
use Rattle.vw_drivers.specs.Tables.{AreDesignTables, root_firsts}
use Rattle.vw_drivers.specs.Drivers.{AreDrivers}
use Rattle.vw_net_faults.specs.declared.columns.Columns.{Columns}
use Rattle.vw_net_faults.specs.Columns.{AreColumns}
use Rattle.vw_elab.specs.declared.parts.NumberedParts.{NumberedParts}

-- instances, cells and drivers by numbers, of a design without a fault of models
pub record AreDesignParts (design : Design) (parts : NumberedParts) : Type 0 where
  pub faultless : HasNoModelFault design
  pub tables : AreDesignTables design parts.tables
  pub cells : AreCellSites design parts.cells
  pub drivers : AreDrivers design parts.tables parts.drivers

-- and the columns, of a design without a fault
pub record IsElaborated (design : Design) (made : NumberedParts) (numbers : Columns) : Type 0 where
  pub accepted : IsAccepted design
  pub parts : AreDesignParts design made
  pub columns : AreColumns design (root_firsts made.tables) numbers
