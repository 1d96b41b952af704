use Rattle.vw_fault.proofs.Unreached.{unread}
use Rattle.vw_fault.proofs.laws.unread_nets_are_open.Goals as goal

-- all other nets are closed
pub returns : goal.returns
returns c = unread
