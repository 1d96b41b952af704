use Rattle.vw_design.proofs.FlatOnce.{flat_once}
use Rattle.vw_design.proofs.laws.values.netlists_are_one.Goals as goal

pub returns : goal.returns
returns c = flat_once
