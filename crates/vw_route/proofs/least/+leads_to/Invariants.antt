-- fewer nodes are left
use Rattle.std.proofs.Common.{length}
use Rattle.vw_route.proofs.least.+leads_to.Given as goal

abbrev pub decreases-leads_to : goal.decreases-leads_to
decreases-leads_to l = length l.further.now
