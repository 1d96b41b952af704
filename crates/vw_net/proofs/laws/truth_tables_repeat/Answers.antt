use Rattle.vw_net.proofs.TruthTables.{truth_table_repeats}
use Rattle.vw_net.proofs.laws.truth_tables_repeat.Goals as goal

-- no row asks for what isn't read
pub returns : goal.returns
returns c = truth_table_repeats
