-- How far the search for a design's faults has come.
use Rattle.std.specs.Prelude.{◌≡◌, List, None, Result, Ok, Err}
use Rattle.vw_design.specs.declared.design.Design.{Design}
use Rattle.vw_design.specs.Paths.{Word}
use Rattle.vw_design.specs.ModelFaults.{unknown_model, IsModelCircle, unknown_formal, unbound_input, port_both_ways}
use Rattle.vw_design.specs.ModelNumbers.{AreTargets}
use Rattle.vw_design.specs.NetFaults.{undriven, two_drivers}
use Rattle.vw_design.specs.Accepted.{HasNoModelFault}
use Rattle.vw_instances.specs.Sizes.{AreSizes}
use Rattle.vw_elab.specs.declared.fault.DesignFault.{DesignFault}
use Rattle.vw_elab.specs.declared.models.Models.{Models}
use Rattle.vw_elab.specs.Refusals.{IsRefusal}

-- each item names a model, and none places itself
pub record HasKnownModels (design : Design) : Type 0 where
  pub known : unknown_model design ≡ None
  pub no_circle : (names : List Word) → IsModelCircle design names → ⊥

-- and each binding is right
pub record HasBindings (design : Design) : Type 0 where
  pub models : HasKnownModels design
  pub formals_known : unknown_formal design ≡ None
  pub inputs_bound : unbound_input design ≡ None
  pub one_way : port_both_ways design ≡ None

-- the numbers of the models that models place, and the sizes of a design without a fault of its models
pub record AreModelTables (design : Design) (models : Models) : Type 0 where
  pub targets : AreTargets design models.targets.items
  pub sizes : AreSizes design models.sizes
  pub faultless : HasNoModelFault design

-- each net that is read has one driver
pub record HasDrivers (design : Design) : Type 0 where
  pub models : HasNoModelFault design
  pub driven : undriven design ≡ None
  pub one_driver : two_drivers design ≡ None

-- something is made of a design, or the design is refused
abbrev pub IsMadeOrRefused : {A : Type 0} → Design → (A → Type 0) → Result A DesignFault → Type 0
IsMadeOrRefused design Good (Ok x) = Good x
IsMadeOrRefused design Good (Err fault) = IsRefusal design fault
