use Rattle.std.specs.Coded.{Coded-set}
use Rattle.std.proofs.Props.{props}
use mathlib.Core.Logic.{∥∥₁_elim}
use Rattle.vw_drivers.specs.contracts.source.Source as source
use Rattle.vw_net_faults.proofs.nets.Nets.source.Goals as goal

pub returns : goal.returns
returns c =
    let nets = c.args.self.now in
    ∥∥₁_elim nets.has_tables (hlevel (props, Coded-set source.the_row.coded)) (λ tables.
    ∥∥₁_elim nets.has_drivers (hlevel (props, Coded-set source.the_row.coded)) (λ drivers. c.source.ensures nets.design.now nets.faultless tables drivers))
