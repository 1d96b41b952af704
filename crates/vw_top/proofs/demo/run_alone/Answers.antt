use Rattle.std.proofs.Common.{arith}
use Rattle.vw_top.proofs.demo.run_alone.Goals as goal

pub returns : goal.returns
returns g c = c.run_by_one.ensures 1 (omega arith)
