use Rattle.std.proofs.Common.{◌<◌, ◌≤◌, ◌∙◌, ℕ, List, Some, ap, length, map, slice_index, refl, subst, sym, ◌+◌, arith}
use Rattle.std.proofs.lemmas.Option.{slice_get_read}
use Rattle.vw_net.specs.Lists.{greatest}
use Rattle.vw_net.specs.declared.cell.Cell.{Cell}
use Rattle.vw_net.specs.declared.flat.Flat.{Flat}
use Rattle.vw_plan.specs.Nets.{greatest_read}
use Rattle.vw_bound.specs.Given.{design_in}
use Rattle.vw_short_bound.specs.Steps.Inlets.{IsGateOf}
use Rattle.vw_short_bound.specs.Steps.Plans.{RestsOn}
use Rattle.vw_short_bound.proofs.PlanFacts.{nets_of_table, table_of}
use Rattle.vw_short_bound.proofs.SoonestNets.{row_rests}
use Rattle.vw_short_bound.proofs.soonest.work_out.Goals as goal

pub time_of_gate-requires-clause-inlets : goal.time_of_gate-requires-clause-inlets
time_of_gate-requires-clause-inlets c =
    let placed = c.args.placed.now in
    let node = slice_index placed.chip_of.now c.args.number in
    let low : node ≤ placed.board.now.chips = placed.chips c.args.number 0 (omega (arith, c.requires.number, placed.each)) in
    table_of (design_in placed) c.args.tables.now node c.index-tables-node.result c.requires.tables low c.index-tables-node.is

pub returns-in_ok-time-in-Gate : goal.returns-in_ok-time-in-Gate
returns-in_ok-time-in-Gate c =
    let placed = c.args.placed.now in
    let design = design_in placed in
    let number = c.args.number in
    let cells = placed.ordered.now.flat.cells in
    let node = slice_index placed.chip_of.now number in
    let nets = c.index-tables-node.result.nets in
    let row = c.in_ok-row-in-Gate.row.items in
    let low : node ≤ placed.board.now.chips = placed.chips number 0 (omega (arith, c.requires.number, placed.each)) in
    let within : node < length c.args.tables.now = omega (arith, c.requires.tables.each, low) in
    let listed = c.cells.ensures ∙ ap (λ (flat : Flat). flat.cells) c.flat.ensures in
    let cell = rw listed at c.index-cells-number.is in
    let there = slice_get_read cells (length cells) number c.index-cells-number.result refl c.requires.number cell ∙ ap (λ (one : Cell). Some one) c.in-Gate.is in
    let gate : IsGateOf design number c.as_slice.result.now = λ number_of. ap (greatest_read number_of) there ∙ ap (λ (list : List ℕ). greatest (map number_of list)) (sym c.as_slice.ensures) in
    let rests = row_rests design number node c.as_slice.result.now gate refl nets row c.in_ok-row-in-Gate.ensures in
    record {
      low = c.in_ok-time-in-Gate.ensures.low;
      soonest = c.in_ok-time-in-Gate.ensures.soonest;
      rests = subst (λ (list : List ℕ). RestsOn design node list row (placed.ordered.now.flat.inputs + number)) (nets_of_table c.args.tables.now node c.index-tables-node.result within c.index-tables-node.is) rests;
    }
