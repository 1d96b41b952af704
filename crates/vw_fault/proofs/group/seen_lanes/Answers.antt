use Rattle.std.proofs.Common.{◌<◌, ◌+◌, ◌||◌, ◌∙◌, ℕ, Bool, false, List, length, map, get_or, ap, sym, arith}
use Rattle.vw_net.specs.declared.flat.Flat.{Flat}
use Rattle.vw_net.specs.TruthTable.{bit_of}
use Rattle.vw_fault.specs.Steps.Groups.{plain_of, rows_of}
use Rattle.vw_fault.specs.Steps.Lanes.{find_in, lane_bits}
use Rattle.vw_fault.specs.Stuck.{bits_differ}
use Rattle.vw_fault.proofs.Groups.{all_seen, among_first, clock_further, clocks_end, even_clocks, outputs-from_found, plain_length, plain_run, plain_size, rows_size}
use Rattle.vw_fault.proofs.Lanes.{lane_ones}
use Rattle.vw_fault.proofs.group.seen_lanes.Goals as goal

-- there are as many clocks of plain outputs as rows
pub row-requires-in-loop-number : goal.row-requires-in-loop-number
row-requires-in-loop-number c = omega (arith, plain_length c.args.grading.now, c.args.grading.now.counted, c.loop-number-test.true)

-- each of them has as many bits as there are outputs
pub differing-seen-requires-clause-plain : goal.differing-seen-requires-clause-plain
differing-seen-requires-clause-plain c =
    let grading = c.args.grading.now in
    let place = c.loop-number.number in
    let plain = c.row-in-loop-number.result.now in
    let outputs = c.outputs-outputs.ensures ∙ ap (λ (f : Flat). f.outputs) c.flat.ensures in
    let is = among_first grading.plain.now grading.count place plain c.row-in-loop-number.ensures c.loop-number-test.true in
    ap (λ (bits : List Bool). length bits) (is ∙ ap (λ (clocks : List (List Bool)). get_or clocks place plain) (plain_run grading))
    ∙ even_clocks grading.ordered.now.flat grading.start.now (rows_of grading) place plain (omega (arith, rows_size grading, c.loop-number-test.true))
    ∙ sym (ap (λ (nets : List ℕ). length nets) outputs)

-- one clock more
pub loop-number-preserved : goal.loop-number-preserved
loop-number-preserved c =
    let grading = c.args.grading.now in
    let flat = grading.ordered.now.flat in
    let place = c.loop-number.number in
    let old = c.loop-number.invariant in
    let row = c.row.result.now in
    let plain = c.row-in-loop-number.result.now in
    let row_is = among_first grading.rows.now grading.count place row c.row.ensures c.loop-number-test.true in
    let plain_is = among_first grading.plain.now grading.count place plain c.row-in-loop-number.ensures c.loop-number-test.true in
    let outputs = c.outputs-outputs.ensures ∙ ap (λ (f : Flat). f.outputs) c.flat.ensures in
    record {
      latches = c.clock.ensures.latches ∙ old.latches;
      nets = c.clock.ensures.nets ∙ old.nets;
      seen = λ lane low.
          let find = find_in c.args.stuck.now lane in
          let state = lane_bits lane c.loop-number.state in
          let value = λ (net : ℕ). get_or (lane_bits lane c.clock.new.words) net false in
          let have = λ (net : ℕ) (within : net < flat.inputs + length flat.cells). c.clock.ensures.words lane low net (omega (arith, within, c.clock.ensures.nets, old.nets, c.requires.nets)) in
          let its = ap (map value) outputs ∙ outputs-from_found find flat row state value have in
          let new = c.differing-seen.ensures lane low ∙ ap (λ (bits : List Bool). bit_of c.loop-number.seen lane || bits_differ bits plain) its in
          clock_further find flat state (lane_bits lane c.clock.new.state) row plain (rows_of grading) (plain_of grading) place _ _ _ (omega (arith, rows_size grading, c.loop-number-test.true)) (omega (arith, plain_size grading, c.loop-number-test.true)) row_is plain_is (c.clock.ensures.state lane low) new (old.seen lane low);
    }

-- all of them
pub returns-after-loop-number : goal.returns-after-loop-number
returns-after-loop-number c = λ lane low.
    let grading = c.args.grading.now in
    clocks_end (find_in c.args.stuck.now lane) grading.ordered.now.flat (lane_bits lane c.loop-number.state) (rows_of grading) (plain_of grading) c.loop-number.number _ _ (omega (arith, rows_size grading, c.loop-number-test.false)) (omega (arith, plain_size grading, c.loop-number-test.false)) (c.loop-number.invariant.seen lane low)

-- where all lanes are seen, no clock sees more
pub returns-then-seen : goal.returns-then-seen
returns-then-seen c = λ lane low.
    all_seen _ _ _ (ap (λ (word : ℕ). bit_of word lane) c.if-seen.true ∙ lane_ones lane low) (c.loop-number.invariant.seen lane low)
