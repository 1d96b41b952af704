-- the wires and the cells so far ask for no later one, and what is waited for is one of theirs
use Rattle.std.proofs.Common.{◌≡◌, ◌<◌, ℕ, Some, slice_get}
use Rattle.vw_net.specs.declared.cell.Cell.{Cell}
use Rattle.vw_chain.specs.Steps.{EndsSo, IsCellDue, WiresAreDue}
use Rattle.vw_chain.specs.Timing.{planned_of}
use Rattle.vw_chain.proofs.due.last_due.Given as goal

abbrev pub invariant-loop-number : goal.invariant-loop-number
invariant-loop-number l = record {
  ends : EndsSo (planned_of l.timed) l.due.last l.due.end;
  wires : WiresAreDue (planned_of l.timed) l.due.last;
  cells : (number : ℕ) (cell : Cell) → number < l.number → slice_get l.timed.wired.now.ordered.now.flat.cells number ≡ Some cell → IsCellDue (planned_of l.timed) l.due.last number cell;
}
