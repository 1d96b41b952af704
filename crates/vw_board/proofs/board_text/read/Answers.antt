use Rattle.std.proofs.Common.{arith}
use Rattle.vw_board.proofs.LineNumbers.{numbers_below}
use Rattle.vw_board.proofs.board_text.read.Goals as goal

pub board_of-requires : goal.board_of-requires
board_of-requires c = rw (c.deref.ensures.value, c.in_ok-lines.ensures) (numbers_below c.args.bytes.now (omega arith))
