-- The netlist of a design in which probes watch nets, and why there is none.
use Rattle.std.specs.Prelude.{List}
use Rattle.vw_net.specs.declared.flat.Flat.{Flat}
use Rattle.vw_design.specs.declared.design.Design.{Design}
use Rattle.vw_design.specs.Paths.{Word, Net}
use Rattle.vw_design.specs.Probes.{FindAll, IsFirstWithoutNet}
use Rattle.vw_design.specs.Flattened.{IsFlatOf}
use Rattle.vw_flat.specs.declared.fault.FlatFault.{FlatFault}
use Rattle.vw_flat.specs.declared.fault.FlatFault.TheVariants.{NoProbe, NoMemory}

-- each probe finds a net, and the netlist is that of the design with these nets watched
pub record IsProbedFlat (design : Design) (probes : List Word) (flat : Flat) : Type 0 where
  pub nets : List Net
  pub found : FindAll design probes nets
  pub is : IsFlatOf design nets flat

-- the first probe without a net is named
abbrev pub IsFlatFault : Design → List Word → FlatFault → Type 0
IsFlatFault design probes (NoProbe probe) = IsFirstWithoutNet design probes probe
IsFlatFault design probes NoMemory = Unit {0}
