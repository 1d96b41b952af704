use Rattle.vw_slots.proofs.OneFirstFree.{first_free_once}
use Rattle.vw_slots.proofs.laws.first_slots_are_one.Goals as goal

-- no earlier microcycle, and no lower pin there
pub returns : goal.returns
returns c = first_free_once
