use Rattle.std.proofs.Common.{◌+◌, ◌∙◌, ℕ, List, ◌∷◌, drop, ap}
use Rattle.vw_net.specs.declared.cell.Cell.{Cell}
use Rattle.vw_net.specs.Cells.{latch_inputs}
use Rattle.vw_net.proofs.GatheredLists.{one_gathered, none_gathered}
use Rattle.vw_sim.proofs.simulator.taken_nets.Goals as goal
use Rattle.vw_sim.proofs.simulator.taken_nets.Goals.{in-Latch+in_ok-push, in_default}

-- a latch gives the net that it reads, and a gate gives none
pub loop-cell-preserved : goal.loop-cell-preserved
loop-cell-preserved c =
    let taken : ℕ → List Cell → List ℕ = λ place cells. latch_inputs cells in
    let cells = c.cells-cell-items.result.now in
    let place = c.loop-cell.cell-index in
    let nets = c.loop-cell.nets.items in
    let rest = drop (place + 1) cells in
    elim c.match-cell.branch [
      | in-Latch+in_ok-push w ↦
          one_gathered taken cells place c.cell-item.result nets (latch_inputs cells) c.loop-cell-test.true c.cell-item.is c.loop-cell.invariant c.match-cell.nets.items w.in-Latch.d
          (ap (λ (cell : Cell). latch_inputs (cell ∷ rest)) w.in-Latch.is) (ap (λ v. v.items) w.nets-is ∙ w.in_ok-push.ensures.items)
      | in_default w ↦
          none_gathered taken cells place c.cell-item.result nets (latch_inputs cells) c.loop-cell-test.true c.cell-item.is c.loop-cell.invariant c.match-cell.nets.items
          (ap (λ (cell : Cell). latch_inputs (cell ∷ rest)) w.in_default.is) (ap (λ v. v.items) w.nets-is)
    ]
