use Rattle.std.proofs.Common.{length, arith}
use Rattle.vw_net.proofs.Counts.{latch_count-le}
use Rattle.vw_trace.proofs.Triggered.{shown_few}
use Rattle.vw_wave.proofs.write.write_head.Goals as goal

-- a netlist has few outputs and few latches
pub head-text-requires : goal.head-text-requires
head-text-requires g c =
    let flat = c.args.flat.now in
    omega (arith, c.requires, latch_count-le flat.cells, shown_few c.args.until (length flat.outputs), flat.few_cells, flat.few_outputs)
