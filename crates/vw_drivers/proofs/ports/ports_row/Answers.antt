use Rattle.std.proofs.Common.{List, None, drop, sym, ◌+◌, ◌∙◌, ap}
use Rattle.std.proofs.lemmas.List.{at_drop_more}
use Rattle.vw_drivers.specs.declared.model_names.Way.{Way}
use Rattle.vw_drivers.specs.declared.model_names.Way.TheVariants.{Output}
use Rattle.vw_drivers.specs.Steps.FoundDrivers.{with_ways}
use Rattle.vw_drivers.proofs.ports.ports_row.Goals as goal

pub loop-way-preserved : goal.loop-way-preserved
loop-way-preserved c =
    let written = with_ways c.args.tables.now c.args.outputs.now c.args.ports.now c.args.entry.parent in
    let ways = c.ways_into-way-items.result.now in
    let i = c.loop-way.way-index in
    ap (written (drop (i + 1) ways)) c.in_ok-put_way.ensures
    ∙ sym (at_drop_more (λ (left : List Way). written left c.loop-way.row.items) ways i (Output None) c.loop-way-test.true)
    ∙ c.loop-way.invariant
