-- a chip for each cell so far
use Rattle.std.proofs.Common.{◌≡◌, length, All}
use Rattle.vw_plan.specs.Chips.{IsChip}
use Rattle.vw_multilevel.proofs.wishes.wished.Given as goal

abbrev pub invariant-loop-cell : goal.invariant-loop-cell
invariant-loop-cell l = record { each : length l.wishes.items ≡ l.cell; chips : All (IsChip l.board) l.wishes.items }
