-- Numbers of chips.
use Rattle.std.proofs.Common.{◌≤◌, ℕ, List, All}
use Rattle.std.proofs.lemmas.List.Elements.{All-weaker}
use Rattle.vw_plan.specs.declared.board.Board.{Board}
use Rattle.vw_plan.specs.Chips.{IsChip}

-- no chip is past the last
pub low_chips : (board : Board) (chip_of : List ℕ) → All (IsChip board) chip_of → All (λ chip. chip ≤ board.chips) chip_of
low_chips board chip_of are = All-weaker (IsChip board) (λ chip. chip ≤ board.chips) (λ chip is. is.1) chip_of are
