use Rattle.vw_design.proofs.PlacedInstances.{faultless_site}
use Rattle.vw_design.proofs.laws.sites.items_are_sites.Goals as goal

-- its instance is listed, and so are all items of it
pub returns : goal.returns
returns c = faultless_site
