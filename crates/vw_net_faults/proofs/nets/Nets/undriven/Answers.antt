use Rattle.std.proofs.Common.{◌≡◌, ◌++◌, Option, is_none, sym, refl, subst}
use Rattle.std.specs.Prelude.{IfOk}
use Rattle.vw_design.specs.declared.item.Item.{Item}
use Rattle.vw_design.specs.Drivers.{driver}
use Rattle.vw_design.specs.Paths.{Net}
use Rattle.vw_design.specs.NetReads.{data_of, controls_of}
use Rattle.vw_net_faults.specs.Nets.{printed_net}
use Rattle.vw_net_faults.proofs.Reading.{then_outputs}
use Rattle.vw_net_faults.proofs.nets.Nets.undriven.Goals as goal

pub returns : goal.returns
returns c =
    let design = c.args.self.now.design.now in
    subst (λ (net : Option Net). IfOk c.first_wanted.result (λ found. found ≡ printed_net net))
    (sym (then_outputs design (λ (net : Net). is_none (driver design net.path net.name)) (λ (item : Item). data_of item ++ controls_of item) (λ line model binds. refl))) c.first_wanted.ensures
