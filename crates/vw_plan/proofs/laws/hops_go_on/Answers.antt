use Rattle.vw_plan.proofs.HopsOfWires.{begins, ends, goes_on}
use Rattle.vw_plan.proofs.laws.hops_go_on.Goals as goal

pub returns : goal.returns
returns c = record {
  first = λ planned number wire hop sound there is. begins planned sound number wire there hop is;
  next = λ planned number place wire hop next sound there is after. goes_on planned sound number wire there place hop next is after;
  last = λ planned number place wire hop sound there is at_end. ends planned sound number wire there place hop is at_end;
}
