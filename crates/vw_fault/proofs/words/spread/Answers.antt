use Rattle.std.proofs.Common.{sym, ◌∙◌}
use Rattle.vw_fault.proofs.Lanes.{lane_ones, lane_none}
use Rattle.vw_fault.proofs.words.spread.Goals as goal

-- all ones or all zeros
pub returns-then-bit : goal.returns-then-bit
returns-then-bit c = λ lane low. lane_ones lane low ∙ sym c.if-bit.true

pub returns-else-bit : goal.returns-else-bit
returns-else-bit c = λ lane low. lane_none lane ∙ sym c.if-bit.false
