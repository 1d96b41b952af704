use Rattle.std.proofs.Common.{◌≡◌, ◌++◌, ℕ, List, subst}
use Rattle.std.specs.Prelude.{OnOk}
use Rattle.vw_gen.proofs.WrittenCells.{latch_written, gate_written, latch_drawn, gate_drawn}
use Rattle.vw_gen.proofs.designs.push_cell.Goals as goal

pub returns-then-cell-eq3-clause-text : goal.returns-then-cell-eq3-clause-text
returns-then-cell-eq3-clause-text c = subst (λ (written : List ℕ). OnOk c.push_latch.result (c.push_latch.new.text.items ≡ c.args.text.now.items ++ written)) (latch_written c.args.cells c.args.cell c.args.draws.now c.requires.draws c.if-cell-eq3.true) c.push_latch.ensures.text

pub returns-then-cell-eq3-clause-draws : goal.returns-then-cell-eq3-clause-draws
returns-then-cell-eq3-clause-draws c = subst (λ (state : ℕ). OnOk c.push_latch.result (c.push_latch.new.draws ≡ state)) (latch_drawn c.args.cells c.args.cell c.args.draws.now c.requires.draws c.if-cell-eq3.true) c.push_latch.ensures.draws

pub returns-else-cell-eq3-clause-text : goal.returns-else-cell-eq3-clause-text
returns-else-cell-eq3-clause-text c = subst (λ (written : List ℕ). OnOk c.push_gate.result (c.push_gate.new.text.items ≡ c.args.text.now.items ++ written)) (gate_written c.args.cells c.args.cell c.args.draws.now c.requires.draws c.if-cell-eq3.false) c.push_gate.ensures.text

pub returns-else-cell-eq3-clause-draws : goal.returns-else-cell-eq3-clause-draws
returns-else-cell-eq3-clause-draws c = subst (λ (state : ℕ). OnOk c.push_gate.result (c.push_gate.new.draws ≡ state)) (gate_drawn c.args.cells c.args.cell c.args.draws.now c.requires.draws c.if-cell-eq3.false) c.push_gate.ensures.draws
