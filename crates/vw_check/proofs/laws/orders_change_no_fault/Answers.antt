use Rattle.vw_check.proofs.SameNetlist.{fault_same}
use Rattle.vw_check.proofs.laws.orders_change_no_fault.Goals as goal

-- leads follow the drivers of nets, and no rule speaks of the order
pub returns : goal.returns
returns c = fault_same
