use Rattle.vw_fault.proofs.Differences.{detected_sooner}
use Rattle.vw_fault.proofs.laws.first_rows_reveal.Goals as goal

-- the outputs of the first rows are the first outputs of all
pub returns : goal.returns
returns c = detected_sooner
