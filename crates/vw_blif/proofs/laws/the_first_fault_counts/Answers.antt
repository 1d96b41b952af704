use Rattle.vw_blif.proofs.FirstFaults.{is_first, first_counts}
use Rattle.vw_blif.proofs.laws.the_first_fault_counts.Goals as goal

pub returns-clause-first : goal.returns-clause-first
returns-clause-first c = is_first

pub returns-clause-counts : goal.returns-clause-counts
returns-clause-counts c = first_counts
