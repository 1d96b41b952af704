use Rattle.vw_net.proofs.Levels.{plain_value}
use Rattle.vw_net.proofs.laws.plain_values_are_found.Goals as goal

-- at each level both compute the same
pub returns : goal.returns
returns c = plain_value
