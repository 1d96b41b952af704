use Rattle.std.proofs.Common.{ap, ◌∙◌}
use Rattle.vw_net.specs.Table.{Table}
use Rattle.vw_net.specs.Steps.MatchedPlaces.{truth_table_of}
use Rattle.vw_net.proofs.TruthTables.{truth_table_is}
use Rattle.vw_net.proofs.cover.Cover.truth_table.Goals as goal

-- it is worked out when the table is made
pub returns : goal.returns
returns c = c.self.inside.truth_table_is ∙ ap (λ (table : Table). truth_table_of table.inputs table.on table.rows) c.self.view_is ∙ truth_table_is c.args.self.now
