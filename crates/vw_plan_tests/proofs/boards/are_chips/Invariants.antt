-- each so far is one
use Rattle.std.specs.List.{AllWithin}
use Rattle.vw_plan.specs.Chips.{IsChip}
use Rattle.vw_plan_tests.proofs.boards.are_chips.Given as goal

abbrev pub invariant-loop-chip : goal.invariant-loop-chip
invariant-loop-chip l = AllWithin (IsChip l.board) l.chips 0 l.chip-index
