use Rattle.vw_front.proofs.RunningDesigns.{netlist_of}
use Rattle.vw_front.proofs.laws.running_designs_have_netlists.Goals as goal

-- its netlist has an order or a loop, and a loop of the netlist is one of the design
pub returns : goal.returns
returns c = netlist_of
