use Rattle.std.proofs.Common.{arith}
use Rattle.std.proofs.lemmas.Grind.{common_steps}
use Rattle.vw_net.proofs.WrittenBits.{set_more}
use Rattle.vw_node.proofs.bits.put_first.Goals as goal

-- one more bit is written
pub loop-i-preserved : goal.loop-i-preserved
loop-i-preserved c = grind (arith, common_steps, set_more)
