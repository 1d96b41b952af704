-- The netlist of the design of a text, with the names of its nets.
use Rattle.std.specs.Prelude.{◌≡◌, ℕ, List}
use Rattle.vw_design.specs.Paths.{Word}
use Rattle.vw_design.specs.Flattened.{IsFlatOf}
use Rattle.vw_front.specs.declared.named.NamedNetlist.{NamedNetlist}
use Rattle.vw_front.specs.Designs.{WatchedDesign, IsWatchedDesignOf, IsNetlistOf}
use Rattle.vw_front.specs.Names.{net_names, output_names}

-- a netlist of the design of a text that runs, with the net that each probe finds, with an order of its gates and with the
-- names of its nets
pub record IsNamedNetlistOf (probes : List Word) (text : List ℕ) (named : NamedNetlist) : Type 0 where
  pub watched : WatchedDesign
  pub is : IsWatchedDesignOf probes text watched
  pub flat : IsFlatOf watched.design watched.nets named.ordered.flat
  pub nets : named.nets ≡ net_names watched.design
  pub outputs : named.outputs ≡ output_names watched.design

-- without its names it is a netlist of that design
abbrev pub without_names : (probes : List Word) (text : List ℕ) (named : NamedNetlist) → IsNamedNetlistOf probes text named → IsNetlistOf probes text named.ordered
without_names probes text named is = record { watched = is.watched; is = is.is; flat = is.flat }
