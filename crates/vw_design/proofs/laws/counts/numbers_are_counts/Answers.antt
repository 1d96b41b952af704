use Rattle.vw_design.proofs.Numbers.{cell_number, instance_number, site_number}
use Rattle.vw_design.proofs.laws.counts.numbers_are_counts.Goals as goal

-- the sites of an instance are cut at the item, and what stands before it weighs as the items do
pub returns-clause-cells : goal.returns-clause-cells
returns-clause-cells c = cell_number

pub returns-clause-instances : goal.returns-clause-instances
returns-clause-instances c = instance_number

pub returns-clause-sites : goal.returns-clause-sites
returns-clause-sites c = site_number
