use Rattle.vw_delays.proofs.LeastPaths.{least_is_least}
use Rattle.vw_delays.proofs.laws.least_delays_are_least.Goals as goal

-- counted up to a limit, a delay is that of a walk or the limit, and some walk stays below the last limit
pub returns : goal.returns
returns c = least_is_least
