use Rattle.std.proofs.Common.{◌≡◌, ◌∙◌, List, Bool, length, ap}
use Rattle.vw_net.specs.declared.flat.Flat.{Flat}
use Rattle.vw_net.specs.declared.ordered.Ordered.{Ordered}
use Rattle.vw_net.specs.Cells.{start_values}
use Rattle.vw_net.proofs.Counts.{length-start_values}
use Rattle.vw_batches.proofs.running_board.RunningBoard.start.Goals as goal
use Rattle.vw_batches.proofs.running_board.RunningBoard.start.Goals.{In_ok-state}

-- the latches start with the start values, and there are as many
starts : (c : In_ok-state) → c.in_ok-state.state ≡ start_values c.args.unknown c.args.checked.ordered.flat.cells
starts c = c.in_ok-state.ensures ∙ ap (λ (flat : Flat). start_values c.args.unknown flat.cells) (c.flat.ensures ∙ ap (λ (ordered : Ordered). ordered.flat) c.ordered.ensures)

pub make-requires-clause-latches : goal.make-requires-clause-latches
make-requires-clause-latches c =
    ap (λ (bits : List Bool). length bits) (starts (goal.at.make-requires-clause-latches c).In_ok-state) ∙ length-start_values c.args.unknown c.args.checked.ordered.flat.cells
