use Rattle.std.proofs.Common.{◌<◌, ◌∙◌, ℕ, false, length, get_or, ap, ap₂, sym, arith}
use Rattle.vw_net.specs.TruthTable.{bit_of}
use Rattle.vw_fault.specs.Steps.Lanes.{lane_bits}
use Rattle.vw_fault.specs.Stuck.{differ}
use Rattle.vw_fault.proofs.Groups.{output_further, outputs_end}
use Rattle.vw_fault.proofs.Lanes.{lane_at, lane_or, lane_xor}
use Rattle.vw_fault.proofs.group.differing.Goals as goal

-- one output more
pub loop-place-preserved : goal.loop-place-preserved
loop-place-preserved c = λ lane low.
    let nets = c.args.outputs.now in
    let plain = c.args.plain.now in
    let words = c.args.words.now in
    let place = c.loop-place.place in
    let inside : place < length plain = omega (arith, c.loop-place-test.true, c.requires.plain) in
    let value = λ (net : ℕ). get_or (lane_bits lane words) net false in
    let word = ap (λ (n : ℕ). bit_of n lane) c.get.ensures ∙ sym (lane_at lane words (get_or nets place 0)) in
    let bit = c.spread.ensures lane low in
    let here = lane_xor c.get.result c.spread.result lane ∙ ap₂ differ word bit in
    output_further value nets plain place _ _ _ _ c.loop-place-test.true inside here (lane_or c.loop-place.seen _ lane) (c.loop-place.invariant lane low)

-- all of them
pub returns : goal.returns
returns c = λ lane low.
    let value = λ (net : ℕ). get_or (lane_bits lane c.args.words.now) net false in
    outputs_end value c.args.outputs.now c.args.plain.now c.loop-place.place _ _ c.loop-place-test.false (omega (arith, c.loop-place-test.false, c.requires.plain)) (c.loop-place.invariant lane low)
