-- the chips so far are full
use Rattle.std.proofs.Common.{◌≤◌, ◌<◌, ℕ}
use Rattle.vw_plan.specs.Chips.{cells_on}
use Rattle.vw_part.proofs.deal.Deal.chip_with_room.Given as goal

abbrev pub invariant-loop-chip : goal.invariant-loop-chip
invariant-loop-chip l = (chip : ℕ) → 1 ≤ chip → chip < l.chip → l.self.board.now.cells ≤ cells_on l.self.chip_of.items chip
