use Rattle.vw_instances.proofs.Filling.{is_ranked}
use Rattle.vw_instances.proofs.counting_tables.tables_of.Goals as goal

pub returns : goal.returns
returns c = record {
  ranked = is_ranked c.args.targets.now.design.now c.args.order.now c.requires.order;
  instances = c.in_ok-counts_of.ensures;
  bindings = c.in_ok-counts_of-2.ensures;
  cells = c.in_ok-counts_of-3.ensures;
  levels = c.in_ok-counts_of-4.ensures;
}
