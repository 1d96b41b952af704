use Rattle.std.proofs.Common.{◌∙◌, List, Bool, length, ap}
use Rattle.vw_net.proofs.Counts.{length-state_after}
use Rattle.vw_trace.proofs.batch.run_batch.Goals as goal

pub returns-clause-latches : goal.returns-clause-latches
returns-clause-latches c =
    ap (λ (bits : List Bool). length bits) c.record_clocks.ensures.state ∙ length-state_after c.args.simulator.now.flat c.args.state.now c.args.rows.now c.requires.latches
