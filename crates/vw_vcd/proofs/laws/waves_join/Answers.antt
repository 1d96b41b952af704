use Rattle.vw_vcd.proofs.WaveParts.{clocks_append}
use Rattle.vw_vcd.proofs.laws.waves_join.Goals as goal

pub returns-clause-joined : goal.returns-clause-joined
returns-clause-joined c = clocks_append
