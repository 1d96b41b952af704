use Rattle.std.proofs.Common.{◌≡◌, ◌<◌, ◌∙◌, List, length, get_or, ap, arith}
use Rattle.vw_net.specs.declared.cell.Cell.{Cell}
use Rattle.vw_net.specs.declared.flat.Flat.{Flat}
use Rattle.vw_pipe.specs.Steps.FinishedSchedules.{cell_microcycle}
use Rattle.vw_pipe.proofs.LatestLatch.{latest_step}
use Rattle.vw_pipe.proofs.planning.period_of.Goals as goal

pub loop-number-preserved : goal.loop-number-preserved
loop-number-preserved c =
    let flat = c.args.given.now.ordered.now.flat in
    let draft = c.args.draft.now in
    let place = c.loop-number.number in
    let cells : c.cells-cell-items.result.now ≡ flat.cells = c.cells-cell-items.ensures ∙ ap (λ (f : Flat). f.cells) c.flat.ensures in
    let within : place < length flat.cells = omega (arith, ap length cells, c.loop-number-test.true) in
    let given = c.args.given.now in
    let microcycle_of = cell_microcycle flat given.board.now given.chip_of.now given.routes.now draft.hops.items draft.leads.items in
    let cell = c.cell-item.result in
    let cell_is = c.cell-item.is ∙ ap (λ (list : List Cell). get_or list place cell) cells in
    latest_step microcycle_of c.loop-number.period c.cell_microcycle-microcycle.result c.max-period-in-loop-number.result _ flat.cells place cell within cell_is
    c.cell_microcycle-microcycle.ensures c.max-period-in-loop-number.ensures c.loop-number.invariant
