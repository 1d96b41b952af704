-- a number between the first chip and the last one
use Rattle.std.proofs.Common.{arith}
use Rattle.vw_multilevel.proofs.wishes.wish.Goals as goal

pub returns : goal.returns
returns c = (omega arith, omega arith)
