use Rattle.std.proofs.Common.{arith}
use Rattle.std.proofs.lemmas.Grind.{common_steps}
use Rattle.vw_wave.proofs.PutBits.{put_further}
use Rattle.vw_wave.proofs.row.put_bits.Goals as goal

-- one bit more
pub loop-i-preserved : goal.loop-i-preserved
loop-i-preserved c = grind (arith, common_steps, put_further)
