use Rattle.std.proofs.Common.{[], refl}
use Rattle.vw_design.specs.NetReads.{net_at}
use Rattle.vw_flat.proofs.Readings.{IsNumbered, numbered, output_has}
use Rattle.vw_flat.proofs.number.number_output.Goals.{After-driver}
use Rattle.vw_flat.proofs.number.number_output.Goals as goal

-- the driver of an output has a number
output : (c : After-driver) → IsNumbered c.args.elaborated.now (net_at [] c.args.name.now) c.columns.result c.driver.result
output c =
    let design = c.args.elaborated.now in
    let net = net_at [] c.args.name.now in
    numbered design c.is_accepted.ensures net (output_has design net c.args.place c.requires) c.columns.result c.columns.ensures c.driver.result (c.driver.ensures [] refl)

pub number-requires : goal.number-requires
number-requires c = (output c).has

pub returns-clause-number : goal.returns-clause-number
returns-clause-number c = (output (goal.at.returns-clause-number c).After-driver).number c.number.result c.number.ensures

pub returns-clause-fits : goal.returns-clause-fits
returns-clause-fits c = (output (goal.at.returns-clause-fits c).After-driver).fits c.number.result c.number.ensures
