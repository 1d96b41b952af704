use Rattle.vw_front.proofs.RunningDesigns.{listed_loop}
use Rattle.vw_front.proofs.laws.circles_have_listed_loops.Goals as goal

-- with an order of its netlist the design would have no circle
pub returns : goal.returns
returns c = listed_loop
