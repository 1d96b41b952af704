use Rattle.std.proofs.Common.{◌≡◌, ◌∙◌, ap}
use Rattle.vw_net.specs.declared.flat.Flat.{Flat}
use Rattle.vw_net.specs.declared.ordered.Ordered.{Ordered}
use Rattle.vw_plan.specs.PlannedBoard.{planned_board}
use Rattle.vw_prog.proofs.UnfoldedCodes.{are_programs}
use Rattle.vw_prog.proofs.programs.Programs.build.Goals as goal

pub returns : goal.returns
returns c =
    let checked = c.args.checked.now in
    let inputs : c.inputs-inputs.result ≡ checked.ordered.flat.inputs = c.inputs-inputs.ensures ∙ ap (λ (flat : Flat). flat.inputs) c.flat.ensures ∙ ap (λ (ordered : Ordered). ordered.flat.inputs) c.ordered.ensures in
    are_programs (planned_board checked.ordered checked.board checked.plan) c.inputs-inputs.result c.in_ok-codes.codes.items inputs c.in_ok-codes.ensures.count c.in_ok-codes.ensures.each
