use Rattle.vw_statuses.proofs.PieceLaws.{replays_of_designs_join}
use Rattle.vw_statuses.proofs.statuses.replays_of_designs_join.Goals as goal

pub returns : goal.returns
returns c = replays_of_designs_join
