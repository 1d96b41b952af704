use Rattle.vw_net.proofs.TruthTables.{truth_table_agrees}
use Rattle.vw_net.proofs.laws.truth_tables_agree.Goals as goal

-- bit by bit: a place is one of 64, and the columns are right at each of them
pub returns : goal.returns
returns c = truth_table_agrees
