use Rattle.std.proofs.Common.{◌<◌, ◌^◌, ◌-◌, ◌∙◌, ℕ, bit_xor, ap, arith}
use Rattle.vw_net.specs.TruthTable.{bit_of}
use Rattle.vw_fault.proofs.Lanes.{lane_none}
use Rattle.vw_fault.proofs.Masks.{lane_first, one_lane}
use Rattle.vw_fault.proofs.group.idle_lanes.Goals as goal

-- all ones but those of the first lanes
pub returns-then-used-eq64 : goal.returns-then-used-eq64
returns-then-used-eq64 c = λ lane used. lane_none lane

pub returns : goal.returns
returns c = λ lane used.
    let low : c.args.used < 64 = omega (arith, c.requires, c.if-used-eq64.false) in
    ap (λ (word : ℕ). bit_of (bit_xor (word - 1) (2 ^ 64 - 1)) lane) (one_lane c.args.used low) ∙ lane_first c.args.used lane used (omega (arith, used, low))
