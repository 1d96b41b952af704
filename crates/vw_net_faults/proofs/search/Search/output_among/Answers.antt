use Rattle.std.proofs.Common.{[], refl, sym, ap, ◌∙◌}
use Rattle.vw_design.specs.Drivers.{driver}
use Rattle.vw_design.specs.Paths.{Word}
use Rattle.vw_drivers.specs.Firsts.{number_named}
use Rattle.vw_drivers.specs.Tables.{instance_firsts}
use Rattle.vw_net_faults.specs.Steps.Wanted.{wants}
use Rattle.vw_net_faults.proofs.SearchSteps.{find_next, find_now}
use Rattle.vw_net_faults.proofs.search.Search.output_among.Goals as goal

pub loop-name-preserved : goal.loop-name-preserved
loop-name-preserved c =
    let design = c.args.self.now.nets.now.design.now in
    let name = c.name-item.result in
    let number = c.claim_number-number.ensures ∙ ap (number_named (instance_firsts c.args.self.now.nets.now.tables.now 0)) c.as_slice.ensures in
    find_next (λ (w : Word). wants design c.args.self.now.wanted.now (driver design [] w)) c.args.names.now c.loop-name.name-index name c.loop-name-test.true c.name-item.is
    (sym (c.is_wanted.ensures [] name refl number) ∙ c.if-is_wanted.false) c.loop-name.invariant

pub returns-then-is_wanted : goal.returns-then-is_wanted
returns-then-is_wanted c =
    let design = c.args.self.now.nets.now.design.now in
    let name = c.name-item.result in
    let number = c.claim_number-number.ensures ∙ ap (number_named (instance_firsts c.args.self.now.nets.now.tables.now 0)) c.as_slice.ensures in
    find_now (λ (w : Word). wants design c.args.self.now.wanted.now (driver design [] w)) c.args.names.now c.loop-name.name-index name c.loop-name-test.true c.name-item.is
    (sym (c.is_wanted.ensures [] name refl number) ∙ c.if-is_wanted.true) c.loop-name.invariant
