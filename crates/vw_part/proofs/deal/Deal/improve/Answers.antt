use Rattle.std.proofs.Common.{ℕ, List, ap, arith}
use Rattle.vw_part.specs.Steps.Deals.{IsGain, spread}
use Rattle.vw_part.proofs.Gains.{spread_moved}
use Rattle.vw_part.proofs.deal.Deal.improve.Goals as goal

-- a gain lowers the spread
pub returns-in-Some-clause-lower : goal.returns-in-Some-clause-lower
returns-in-Some-clause-lower c = λ moved.
    let board = c.args.self.now.board.now in
    let cell_nets = c.args.self.now.cell_nets.now in
    let chips = c.args.self.now.chip_of.items in
    let gain : IsGain board cell_nets chips c.args.cell c.in-Some.chip = c.in-Some.ensures in
    let change = spread_moved board cell_nets chips c.args.cell c.in-Some.chip c.requires c.args.self.now.is.few c.args.self.now.is.chips gain.target.real gain.target.away in
    omega (arith, change, gain.helps, ap (λ (l : List ℕ). spread board cell_nets l) c.shift.ensures.chip_of)
