use Rattle.std.proofs.Common.{◌++◌, ◌∙◌, ℕ, Bool, List, [], ◌∷◌, drop, ◌+◌, ap}
use Rattle.vw_net.specs.declared.cell.Cell.{Cell}
use Rattle.vw_net.specs.Cells.{start_value, start_values}
use Rattle.vw_net.proofs.GatheredLists.{one_gathered, none_gathered}
use Rattle.vw_net.proofs.flat.Flat.start.Goals as goal
use Rattle.vw_net.proofs.flat.Flat.start.Goals.{in-Latch+in_ok-push, in_default}

-- a latch gives its bit, and a gate gives none
pub loop-cell-preserved : goal.loop-cell-preserved
loop-cell-preserved c =
    let unknown = c.args.unknown in
    let values : ℕ → List Cell → List Bool = λ place cells. start_values unknown cells in
    let cells = c.as_slice-cell-items.result.now in
    let place = c.loop-cell.cell-index in
    let bits = c.loop-cell.bits.items in
    let rest = drop (place + 1) cells in
    elim c.match-cell.branch [
      | in-Latch+in_ok-push w ↦
          one_gathered values cells place c.cell-item.result bits (start_values unknown cells) c.loop-cell-test.true c.cell-item.is c.loop-cell.invariant c.match-cell.bits.items (start_value unknown w.in-Latch.init)
          (ap (λ (cell : Cell). start_values unknown (cell ∷ rest)) w.in-Latch.is)
          (ap (λ v. v.items) w.bits-is ∙ w.in_ok-push.ensures.items ∙ ap (λ (b : Bool). bits ++ b ∷ []) w.start_value.ensures)
      | in_default w ↦
          none_gathered values cells place c.cell-item.result bits (start_values unknown cells) c.loop-cell-test.true c.cell-item.is c.loop-cell.invariant c.match-cell.bits.items
          (ap (λ (cell : Cell). start_values unknown (cell ∷ rest)) w.in_default.is) (ap (λ v. v.items) w.bits-is)
    ]
