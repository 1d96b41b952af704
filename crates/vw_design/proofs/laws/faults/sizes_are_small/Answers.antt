use Rattle.vw_design.proofs.Sizes.{small_of, small_fits, few_columns}
use Rattle.vw_design.proofs.laws.faults.sizes_are_small.Goals as goal

-- quantity by quantity
pub returns-clause-small : goal.returns-clause-small
returns-clause-small c = small_of

pub returns-clause-fits : goal.returns-clause-fits
returns-clause-fits c = small_fits

pub returns-clause-columns : goal.returns-clause-columns
returns-clause-columns c = few_columns
