use Rattle.vw_flat.proofs.FlatNetlists.{flat_of}
use Rattle.vw_flat.proofs.laws.accepted_designs_have_netlists.Goals as goal

-- each gate and latch in turn, since whatever it reads has a number
pub returns : goal.returns
returns c = flat_of
