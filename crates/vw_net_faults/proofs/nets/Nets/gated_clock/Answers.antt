use Rattle.std.proofs.Common.{◌≡◌, Option, sym, refl, subst}
use Rattle.std.specs.Prelude.{IfOk}
use Rattle.vw_design.specs.Drivers.{driver}
use Rattle.vw_design.specs.Paths.{Net}
use Rattle.vw_design.specs.NetReads.{controls_of}
use Rattle.vw_design.specs.NetFaults.{is_cell_source}
use Rattle.vw_net_faults.specs.Nets.{printed_net}
use Rattle.vw_net_faults.proofs.Reading.{at_cells}
use Rattle.vw_net_faults.proofs.nets.Nets.gated_clock.Goals as goal

pub returns : goal.returns
returns c =
    let design = c.args.self.now.design.now in
    subst (λ (net : Option Net). IfOk c.wanted_read.result (λ found. found ≡ printed_net net))
    (sym (at_cells design (λ (net : Net). is_cell_source (driver design net.path net.name)) controls_of (λ line model binds. refl))) c.wanted_read.ensures
