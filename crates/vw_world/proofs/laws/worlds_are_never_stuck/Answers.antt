use Rattle.vw_world.proofs.NeverStuck.{some_able}
use Rattle.vw_world.proofs.laws.worlds_are_never_stuck.Goals as goal

pub returns : goal.returns
returns c = λ job world node kept. some_able job world kept node
