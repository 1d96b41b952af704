-- a call has twice as many steps ahead as it has workers, and a part one more than the call that it makes
use Rattle.std.proofs.Common.{◌+◌, ◌*◌}
use Rattle.vw_fault.proofs.workers.+halves.Given as goal

abbrev pub decreases-open_among : goal.decreases-open_among
decreases-open_among g l = 2 * l.workers

abbrev pub decreases-first : goal.decreases-first
decreases-first g l = 2 * l.few + 1

abbrev pub decreases-second : goal.decreases-second
decreases-second g l = 2 * l.more + 1
