use Rattle.std.proofs.Common.{◌∙◌, Bool, List, length, ap}
use Rattle.vw_net.proofs.Counts.{length-next_state}
use Rattle.vw_merge_tests.proofs.compared.clock.Goals as goal

-- a clock has a next value for each latch
pub returns-then-row-inputs-clause-latches : goal.returns-then-row-inputs-clause-latches
returns-then-row-inputs-clause-latches c = ap (λ (bits : List Bool). length bits) c.step.ensures.state ∙ length-next_state c.args.simulator.now.flat c.args.row.now c.args.state.now
