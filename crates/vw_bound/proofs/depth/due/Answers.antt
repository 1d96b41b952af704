use Rattle.std.proofs.Common.{◌≤◌, All, sym, subst}
use Rattle.vw_plan.specs.declared.need.Need.{Need}
use Rattle.vw_bound.proofs.ListedNeeds.{needs_on_board}
use Rattle.vw_bound.proofs.depth.due.Goals as goal

pub pairs_due-pairs-requires-clause-nodes : goal.pairs_due-pairs-requires-clause-nodes
pairs_due-pairs-requires-clause-nodes c =
    let placed = c.args.placed.now in
    subst (All (λ (need : Need). need.to ≤ placed.board.now.chips)) (sym c.requires.needs) (needs_on_board placed.ordered.now.flat placed.chip_of.now placed.board.now.chips placed.chips)
