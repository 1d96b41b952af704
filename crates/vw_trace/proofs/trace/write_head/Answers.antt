use Rattle.std.proofs.Common.{arith}
use Rattle.vw_net.proofs.Counts.{latch_count-le}
use Rattle.vw_trace.proofs.trace.write_head.Goals as goal

pub overflow_cast-len : goal.overflow_cast-len
overflow_cast-len g c =
    let flat = c.args.flat.now in
    omega (arith, c.len.ensures, c.requires.latches, latch_count-le flat.cells, flat.few_cells)
