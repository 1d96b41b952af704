use Rattle.vw_design.proofs.ListElements.{Has-Contains}
use Rattle.vw_design.proofs.Sites.{site_item}
use Rattle.vw_design.proofs.FlatValues.{latches_of_cells}
use Rattle.vw_design.specs.Preorder.{sites}
use Rattle.vw_design.proofs.laws.sites.sites_are_items.Goals as goal

-- a site is made from a numbered item of its instance
pub returns-clause-items : goal.returns-clause-items
returns-clause-items c = λ design site listed. site_item design site (Has-Contains site (sites design) listed)

pub returns-clause-latches : goal.returns-clause-latches
returns-clause-latches c = latches_of_cells
