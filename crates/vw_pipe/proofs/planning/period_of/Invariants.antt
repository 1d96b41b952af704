-- the greatest so far, or that of the cells that are left
use Rattle.std.proofs.Common.{◌≡◌, drop, max}
use Rattle.vw_pipe.specs.Steps.FinishedSchedules.{cell_microcycle, latest}
use Rattle.vw_pipe.proofs.planning.period_of.Given as goal

abbrev pub invariant-loop-number : goal.invariant-loop-number
invariant-loop-number l =
    let flat = l.given.ordered.now.flat in
    let microcycle_of = cell_microcycle flat l.given.board.now l.given.chip_of.now l.given.routes.now l.draft.hops.items l.draft.leads.items in
    max l.period (latest microcycle_of l.number (drop l.number flat.cells)) ≡ max (max l.draft.after 1) (latest microcycle_of 0 flat.cells)
