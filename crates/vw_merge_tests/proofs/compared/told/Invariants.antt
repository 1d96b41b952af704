-- a bit for each latch, and one for each net
use Rattle.std.proofs.Common.{◌≡◌, ◌+◌, length}
use Rattle.vw_net.specs.Cells.{latch_count}
use Rattle.vw_merge_tests.proofs.compared.told.Given as goal

abbrev pub invariant-loop-place : goal.invariant-loop-place
invariant-loop-place l = record {
  latches : length l.state ≡ latch_count l.ordered.flat.cells;
  nets : length l.values ≡ l.ordered.flat.inputs + length l.ordered.flat.cells;
}
