use Rattle.vw_net.proofs.Histories.{flat_history-append}
use Rattle.vw_net.proofs.laws.histories_join.Goals as goal

-- by induction on the first rows, for the outputs, the states and the last state
pub returns : goal.returns
returns c = flat_history-append
