use Rattle.vw_front.proofs.RunningDesigns.{named_netlist_of}
use Rattle.vw_front.proofs.laws.running_designs_have_named_netlists.Goals as goal

-- its netlist can be given names
pub returns : goal.returns
returns c = named_netlist_of
