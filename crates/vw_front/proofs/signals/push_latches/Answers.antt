use Rattle.std.proofs.Common.{◌<◌, ◌+◌, ◌++◌, ◌∙◌, ℕ, List, [], ◌∷◌, length, drop, ap, arith}
use Rattle.vw_net.specs.declared.cell.Cell.{Cell}
use Rattle.vw_net.proofs.GatheredLists.{one_gathered, none_gathered}
use Rattle.vw_design.specs.Paths.{Word}
use Rattle.vw_front.specs.Steps.LatchNames.{latch_names}
use Rattle.vw_front.proofs.NameLists.{latch_gives, gate_gives}
use Rattle.vw_front.proofs.signals.push_latches.Goals as goal
use Rattle.vw_front.proofs.signals.push_latches.Goals.{in-Gate, in-Latch+in_ok-copy-in-Latch+in_ok-push-in-Latch}

-- a latch's name is the next one, and a gate has none
pub loop-number-preserved : goal.loop-number-preserved
loop-number-preserved c =
    let cells = c.args.cells.now in
    let nets = c.args.nets.now in
    let place = c.loop-number.number in
    let cell = c.index-cells-number.result in
    let rest = drop (place + 1) cells in
    let gather = λ (i : ℕ) (left : List Cell). latch_names left (drop i nets) in
    let within : place < length nets = omega (arith, c.requires, c.loop-number-test.true) in
    elim c.match-cell.branch [
      | in-Gate w ↦ none_gathered gather cells place cell c.loop-number.names.items _ c.loop-number-test.true c.index-cells-number.is c.loop-number.invariant
          c.match-cell.names.items (gate_gives cell rest nets place within w.in-Gate.ins w.in-Gate.cover w.in-Gate.is) (ap (λ names. names.items) w.names-is)
      | in-Latch+in_ok-copy-in-Latch+in_ok-push-in-Latch w ↦ one_gathered gather cells place cell c.loop-number.names.items _ c.loop-number-test.true c.index-cells-number.is c.loop-number.invariant
          c.match-cell.names.items w.index-nets-number.result
          (latch_gives cell rest nets place within w.in-Latch.d w.in-Latch.init w.in-Latch.is w.index-nets-number.result w.index-nets-number.is)
          (ap (λ names. names.items) w.names-is ∙ w.in_ok-push-in-Latch.ensures.items ∙ ap (λ (name : Word). c.loop-number.names.items ++ name ∷ []) w.in_ok-copy-in-Latch.ensures)
    ]
