use Rattle.vw_design.proofs.SitesOnce.{site_once, cell_once}
use Rattle.vw_design.proofs.PathsOnce.{instance_once}
use Rattle.vw_design.proofs.laws.sites.items_are_once.Goals as goal

-- what stands below a path ends in it, and the numbers of its own items rise
pub returns-clause-sites : goal.returns-clause-sites
returns-clause-sites c = site_once

pub returns-clause-cells : goal.returns-clause-cells
returns-clause-cells c = cell_once

pub returns-clause-instances : goal.returns-clause-instances
returns-clause-instances c = instance_once
