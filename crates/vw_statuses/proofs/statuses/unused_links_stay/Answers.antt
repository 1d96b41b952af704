use Rattle.vw_statuses.proofs.UnusedLinks.{unused_links_stay}
use Rattle.vw_statuses.proofs.statuses.unused_links_stay.Goals as goal

pub returns : goal.returns
returns c = unused_links_stay
