-- What is made of a design: a netlist with an order of its gates, and with the names of its nets.
use Rattle.std.specs.Prelude.{◌≡◌, List}
use Rattle.vw_net.specs.declared.ordered.Ordered.{Ordered}
use Rattle.vw_design.specs.declared.design.Design.{Design}
use Rattle.vw_design.specs.Paths.{Word}
use Rattle.vw_design.specs.Loops.{IsLoopFree}
use Rattle.vw_flat.specs.Probed.{IsProbedFlat}
use Rattle.vw_front.specs.declared.named.NamedNetlist.{NamedNetlist}
use Rattle.vw_front.specs.Names.{net_names, output_names}

-- the netlist is that of the design with the nets that probes find, and the design has no loop
pub record IsOrderedOf (probes : List Word) (design : Design) (ordered : Ordered) : Type 0 where
  pub probed : IsProbedFlat design probes ordered.flat
  pub loop_free : IsLoopFree design

-- and the names are those of the design
pub record IsNamedOf (probes : List Word) (design : Design) (named : NamedNetlist) : Type 0 where
  pub ordered : IsOrderedOf probes design named.ordered
  pub nets : named.nets ≡ net_names design
  pub outputs : named.outputs ≡ output_names design
