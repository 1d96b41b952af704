use Rattle.std.proofs.Common.{◌≡◌, max, rules, arith}
use Rattle.vw_bound.specs.PlacedDesigns.{placed_design}
use Rattle.vw_bound.proofs.RisingTimes.{fits_longer}
use Rattle.vw_short_bound.proofs.SoonestNets.{short_of}
use Rattle.vw_short_bound.proofs.periods.short_bound.Goals as goal

-- a bound of all sound plans is one of those with shortest wires
pub returns-clause-bound : goal.returns-clause-bound
returns-clause-bound c plan same sound short =
    let placed = placed_design c.args.ordered.now c.args.board.now c.args.chip_of.now in
    let greater : c.max.result ≡ max c.in_ok-least.least c.in_ok-pressed.pressed = search rules in
    omega (arith, greater, c.in_ok-least.ensures.bound plan same sound, short_of placed c.in_ok-pressed.pressed c.in_ok-pressed.ensures plan same sound short)

pub returns-clause-pins : goal.returns-clause-pins
returns-clause-pins c =
    let placed = placed_design c.args.ordered.now c.args.board.now c.args.chip_of.now in
    let greater : c.max.result ≡ max c.in_ok-least.least c.in_ok-pressed.pressed = search rules in
    fits_longer placed c.in_ok-least.least c.max.result (omega (arith, greater)) c.in_ok-least.ensures.pins
