use Rattle.std.proofs.Common.{◌∙◌, ap}
use Rattle.vw_net.specs.declared.flat.Flat.{Flat}
use Rattle.vw_check.specs.Faults.{chips_fault}
use Rattle.vw_check.proofs.SoundPlans.{found_place}
use Rattle.vw_check.proofs.checker.chips_fault.Goals as goal

-- where nothing is found, each cell has a place
pub returns-clause-place : goal.returns-clause-place
returns-clause-place c =
    let board = c.args.board.now in
    let chip_of = c.args.chip_of.now in
    found_place c.args.ordered.now.flat board chip_of c.fault_of_chips.result (c.fault_of_chips.ensures ∙ ap (λ (flat : Flat). chips_fault flat board chip_of) c.flat.ensures)
