use Rattle.vw_net.proofs.FoundLevels.{found_level-past_cells}
use Rattle.vw_net.proofs.laws.found_levels_settle.Goals as goal

-- every net is found alike from one level more than there are gates on
pub returns : goal.returns
returns c = λ find ordered. found_level-past_cells find ordered.flat ordered.order ordered.is_order
