use Rattle.std.proofs.Common.{Some, ap, sym, ◌∙◌}
use Rattle.vw_design.specs.Clocks.{columns}
use Rattle.vw_design.specs.Paths.{Word}
use Rattle.vw_front.proofs.NameLists.{element_more}
use Rattle.vw_front.proofs.names.push_columns.Goals as goal

-- one column more
pub loop-column-preserved : goal.loop-column-preserved
loop-column-preserved c =
    element_more (columns c.args.elaborated.now) c.loop-column.column c.loop-column.names.items c.push.new.self.items _ c.in_ok-copy.field-0
    (c.column.ensures ∙ ap (λ (name : Word). Some name) (sym c.in_ok-copy.ensures)) c.in_ok-push.ensures.items c.loop-column.invariant
