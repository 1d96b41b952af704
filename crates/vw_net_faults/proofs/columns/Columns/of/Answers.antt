use Rattle.std.proofs.Props.{props}
use mathlib.Core.Logic.{∥∥₁_elim}
use Rattle.vw_net_faults.proofs.FreeColumns.{columns_are}
use Rattle.vw_net_faults.proofs.columns.Columns.of.Goals as goal

pub returns : goal.returns
returns c =
    ∥∥₁_elim c.args.nets.now.has_tables (hlevel props) (λ are.
    columns_are c.args.nets.now.design.now c.args.nets.now.tables.now are c.root.result.now c.root.ensures c.root_claims.result.now.firsts c.root_claims.ensures
    c.in_ok-clock_flags.clock_flags.items c.as_slice.result.now c.as_slice.ensures.value c.in_ok-clock_flags.ensures c.inputs-names.result.now c.inputs-names.ensures c.in_ok-columns.columns c.in_ok-columns.ensures)
