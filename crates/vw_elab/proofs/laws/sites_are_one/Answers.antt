use Rattle.vw_instances.proofs.OnlyTables.{site_once}
use Rattle.vw_elab.proofs.laws.sites_are_one.Goals as goal

-- no instance is listed twice
pub returns : goal.returns
returns c = λ design cell site at. site_once design (c.items_are_once.ensures.instances design) site
