use Rattle.std.proofs.Common.{◌&&◌, ℕ, Bool, get_or, ap, arith}
use Rattle.std.proofs.lemmas.Option.{slice_get-get_or}
use Rattle.vw_net.specs.Mark.{row_matches}
use Rattle.vw_net.specs.TruthTable.{bit_of}
use Rattle.vw_merge.specs.Words.{bits_of}
use Rattle.vw_merge.proofs.Lanes.{lane_and, lane_ones}
use Rattle.vw_merge.proofs.RowLanes.{row_ends, row_even, row_further}
use Rattle.vw_merge.proofs.gate_word.row_word.Goals as goal

-- no mark is left out yet
pub loop-input-init : goal.loop-input-init
loop-input-init c = λ one its lane low. ap (λ (b : Bool). b && row_matches one.marks (bits_of lane c.args.words.now)) (lane_ones lane low)

-- one mark more
pub loop-input-preserved : goal.loop-input-preserved
loop-input-preserved c = λ one its lane low.
    let words = c.args.words.now in
    let place = c.loop-input.input in
    let word = get_or words place 0 in
    let bit = λ (one : ℕ). bit_of one lane in
    row_further c.args.cover.now c.args.row place one c.mark.result bit words word _ _ _ _ its c.mark.ensures (slice_get-get_or words place 0 c.loop-input-test.true) (c.mark_word-matched.ensures lane low) (lane_and c.loop-input.matched c.mark_word-matched.result lane) (c.loop-input.invariant one its lane low)

-- there are as many marks as words
pub returns : goal.returns
returns c = λ one its lane low.
    row_ends one.marks _ c.loop-input.input _ _ (omega (arith, row_even c.args.cover.now c.args.row one its, c.requires.arity, c.loop-input-test.false)) (c.loop-input.invariant one its lane low)
