use Rattle.vw_fault.proofs.Unreached.{unreached}
use Rattle.vw_fault.proofs.laws.unreached_nets_are_open.Goals as goal

-- level by level, what is found of nets that reach an output is the same in both runs
pub returns : goal.returns
returns c = unreached
