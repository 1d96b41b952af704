use Rattle.std.proofs.Common.{refl, sym, ◌∙◌}
use Rattle.vw_design.specs.Paths.{printed}
use Rattle.vw_design.specs.NetFaults.{undriven, two_drivers}
use Rattle.vw_design.specs.Accepted.{net_undriven, driven_twice}
use Rattle.vw_elab.proofs.FurtherFaults.{nothing_found, printed_is, by_parts, of_nets}
use Rattle.vw_elab.proofs.nets.check_drivers.Goals as goal

pub returns-in-Some : goal.returns-in-Some
returns-in-Some c =
    let design = c.args.nets.now.design.now in
    let found = printed_is (undriven design) c.in-Some.net (sym c.in-Some.is ∙ c.in_ok-net.ensures) in
    (found.0, of_nets design c.args.nets.now.faultless (net_undriven found.0) (by_parts found.1 refl refl refl refl refl), found.2)

pub returns-in-Some-2 : goal.returns-in-Some-2
returns-in-Some-2 c =
    let design = c.args.nets.now.design.now in
    let driven = nothing_found printed (undriven design) c.in_ok-net.field-0 c.in_ok-net.ensures c.in_default.is in
    let found = printed_is (two_drivers design) c.in-Some-2.net (sym c.in-Some-2.is ∙ c.in_ok-net-2.ensures) in
    (found.0, of_nets design c.args.nets.now.faultless (driven_twice found.0) (by_parts driven found.1 refl refl refl refl), found.2)

pub returns : goal.returns
returns c =
    let design = c.args.nets.now.design.now in
    record {
      models = c.args.nets.now.faultless;
      driven = nothing_found printed (undriven design) c.in_ok-net.field-0 c.in_ok-net.ensures c.in_default.is;
      one_driver = nothing_found printed (two_drivers design) c.in_ok-net-2.field-0 c.in_ok-net-2.ensures c.in_default-2.is;
    }
