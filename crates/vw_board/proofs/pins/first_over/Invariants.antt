-- the chips so far have enough pins
use Rattle.std.proofs.Common.{ℕ, ◌≤◌, ◌<◌}
use Rattle.vw_board.specs.Pins.{used_pins}
use Rattle.vw_board.proofs.pins.first_over.Given as goal

abbrev pub invariant-loop-chip : goal.invariant-loop-chip
invariant-loop-chip l = (other : ℕ) → 1 ≤ other → other < l.chip → used_pins l.links other ≤ l.pins
