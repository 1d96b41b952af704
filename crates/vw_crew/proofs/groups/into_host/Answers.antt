use Rattle.vw_crew.proofs.CrewEnds.{host_first}
use Rattle.vw_crew.proofs.groups.into_host.Goals as goal

pub returns : goal.returns
returns g c = host_first c.args.groups.items c.swap_remove.result c.into_first.result c.requires c.swap_remove.ensures.value c.into_first.ensures
