use Rattle.std.proofs.Common.{List, refl, sym, subst}
use Rattle.std.specs.List.{AllZip}
use Rattle.vw_instances.specs.declared.sizes.Before.{Before}
use Rattle.vw_instances.specs.Steps.Counting.{AreEntries}
use Rattle.vw_instances.proofs.ExactCounts.{nothing_big, are_sizes}
use Rattle.vw_instances.proofs.count.sizes_of.Goals as goal

pub returns : goal.returns
returns c =
    let design = c.args.targets.now.design.now in
    let totals = c.in_ok-totals.totals in
    let small = nothing_big design totals c.in_ok-totals.ensures c.above.result c.above.ensures c.in_default.not-Some in
    are_sizes design totals c.in_ok-totals.ensures c.in_ok-tables.tables c.in_ok-tables.ensures small
    (record { instances = totals.instances; cells = totals.cells; before = c.of.result }) refl refl
    (subst (λ (before : List (List Before)). AllZip (λ model list. AreEntries design c.in_ok-tables.tables model.items list) design.models before) (sym c.of.ensures) c.in_ok-before.ensures)
