use Rattle.std.proofs.Common.{◌∙◌, Some, ap, sym}
use Rattle.vw_design.specs.Paths.{Word}
use Rattle.vw_net_faults.specs.Nets.{printed_net}
use Rattle.vw_net_faults.proofs.InstancePlaces.{as_many}
use Rattle.vw_net_faults.proofs.FirstAgain.{nothing_again, first_again_is}
use Rattle.vw_net_faults.proofs.nets.Nets.two_drivers.Goals as goal

pub returns-in_ok-net-in-Some : goal.returns-in_ok-net-in-Some
returns-in_ok-net-in-Some c =
    let is = c.in-Some.ensures in
    ap (λ (w : Word). Some w) (c.in_ok-net-in-Some.ensures is.0.0 is.0.1)
    ∙ sym (ap printed_net (first_again_is c.args.self.now.design.now c.args.self.now.faultless _ (as_many c.args.self.now) c.in-Some.second is))

pub returns-in-None : goal.returns-in-None
returns-in-None c = nothing_again c.args.self.now.design.now c.args.self.now.faultless _ (as_many c.args.self.now) c.in-None.ensures
