use Rattle.std.proofs.Common.{arith}
use Rattle.std.proofs.lemmas.Grind.{common_steps}
use Rattle.vw_net.proofs.WrittenBits.{set_more}
use Rattle.vw_sim.proofs.clock.put_inputs.Goals as goal

-- one more bit is written
pub loop-net-preserved : goal.loop-net-preserved
loop-net-preserved c = grind (arith, common_steps, set_more)
