use Rattle.vw_design.proofs.ClaimedOnce.{claimed_once, claimed_twice}
use Rattle.vw_design.proofs.laws.drivers.claims_are_single.Goals as goal

-- no item claims what a port or an item before it claims; and what an item claims again is claimed twice
pub returns-clause-single : goal.returns-clause-single
returns-clause-single c = claimed_once

pub returns-clause-twice : goal.returns-clause-twice
returns-clause-twice c = claimed_twice
