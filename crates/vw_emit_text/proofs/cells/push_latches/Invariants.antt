-- what is written, and the cells that are left
use Rattle.std.proofs.Common.{◌≡◌, ◌++◌, drop}
use Rattle.vw_emit_hardware.specs.Items.{latch_items}
use Rattle.vw_emit_text.specs.Steps.{items_text, of_cells, planned_by}
use Rattle.vw_emit_text.proofs.cells.push_latches.Given as goal

abbrev pub invariant-loop-number : goal.invariant-loop-number
invariant-loop-number l = l.text.items ++ items_text (of_cells (latch_items (planned_by l.emitter) l.node) l.emitter.plan.now.chip_of l.node l.number (drop l.number l.cells)) ≡ l.initial.text.items ++ items_text (of_cells (latch_items (planned_by l.emitter) l.node) l.emitter.plan.now.chip_of l.node 0 l.cells)
