use Rattle.vw_bound.proofs.NodePins.{pairs_fit}
use Rattle.vw_bound.proofs.laws.pairs_fit_in_periods.Goals as goal

pub returns : goal.returns
returns c = pairs_fit
