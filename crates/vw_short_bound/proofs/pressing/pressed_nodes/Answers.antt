use Rattle.std.proofs.Common.{◌≡◌, ◌≤◌, max, rules, arith}
use Rattle.vw_bound.specs.Given.{design_in}
use Rattle.vw_short_bound.proofs.PlanFacts.{greater_below, presses_periods, table_of}
use Rattle.vw_short_bound.proofs.pressing.pressed_nodes.Goals as goal

pub pressed_at-requires-clause-inlets : goal.pressed_at-requires-clause-inlets
pressed_at-requires-clause-inlets c =
    let low : c.loop-node.node ≤ c.args.placed.now.board.now.chips = omega (arith, c.chips-node-end.ensures, c.loop-node-test.true) in
    table_of (design_in c.args.placed.now) c.args.tables.now c.loop-node.node c.index-tables-node.result c.requires.tables low c.index-tables-node.is

pub loop-node-preserved : goal.loop-node-preserved
loop-node-preserved c =
    let placed = design_in c.args.placed.now in
    let low : c.loop-node.node ≤ c.args.placed.now.board.now.chips = omega (arith, c.chips-node-end.ensures, c.loop-node-test.true) in
    let table = table_of placed c.args.tables.now c.loop-node.node c.index-tables-node.result c.requires.tables low c.index-tables-node.is in
    let greater : c.max-most.result ≡ max c.loop-node.most c.in_ok-pressed_at.field-0 = search rules in
    greater_below placed c.loop-node.most c.in_ok-pressed_at.field-0 c.max-most.result greater c.loop-node.invariant (presses_periods placed c.loop-node.node c.index-tables-node.result.nets c.deref.result.now c.in_ok-pressed_at.field-0 table.needed c.in_ok-pressed_at.ensures)
