use Rattle.std.proofs.Common.{◌≡◌, ◌+◌, ◌∙◌, ℕ, List, ◌∷◌, drop, ap, arith}
use Rattle.vw_net.specs.declared.cell.Cell.{Cell}
use Rattle.vw_net.proofs.GatheredLists.{one_gathered, none_gathered}
use Rattle.vw_sim.specs.Steps.Simulator.{latch_nets}
use Rattle.vw_sim.proofs.simulator.latch_nets.Goals as goal
use Rattle.vw_sim.proofs.simulator.latch_nets.Goals.{in-Latch+in_ok-push, in_default}

-- a latch gives its own net, and a gate gives none
pub loop-number-preserved : goal.loop-number-preserved
loop-number-preserved c =
    let first = c.inputs-first.result in
    let from : ℕ → List Cell → List ℕ = λ place cells. latch_nets (first + place) cells in
    let cells = c.cells-cell-items.result.now in
    let place = c.loop-number.number in
    let nets = c.loop-number.nets.items in
    let rest = drop (place + 1) cells in
    let next : first + place + 1 ≡ first + (place + 1) = omega arith in
    elim c.match-cell.branch [
      | in-Latch+in_ok-push w ↦
          one_gathered from cells place c.cell-item.result nets (latch_nets first cells) c.loop-number-test.true c.cell-item.is c.loop-number.invariant c.match-cell.nets.items (first + place)
          (ap (λ (cell : Cell). latch_nets (first + place) (cell ∷ rest)) w.in-Latch.is ∙ ap (λ (net : ℕ). (first + place) ∷ latch_nets net rest) next)
          (ap (λ v. v.items) w.nets-is ∙ w.in_ok-push.ensures.items)
      | in_default w ↦
          none_gathered from cells place c.cell-item.result nets (latch_nets first cells) c.loop-number-test.true c.cell-item.is c.loop-number.invariant c.match-cell.nets.items
          (ap (λ (cell : Cell). latch_nets (first + place) (cell ∷ rest)) w.in_default.is ∙ ap (λ (net : ℕ). latch_nets net rest) next) (ap (λ v. v.items) w.nets-is)
    ]
