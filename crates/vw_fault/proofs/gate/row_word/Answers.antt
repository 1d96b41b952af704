use Rattle.std.proofs.Common.{◌&&◌, ◌∙◌, ℕ, Bool, get_or, ap, arith}
use Rattle.std.proofs.lemmas.Option.{slice_get-get_or}
use Rattle.vw_net.specs.Mark.{mark_matches, row_matches}
use Rattle.vw_net.specs.TruthTable.{bit_of}
use Rattle.vw_fault.specs.Steps.Lanes.{bits_at}
use Rattle.vw_fault.proofs.Lanes.{lane_and, lane_ones}
use Rattle.vw_fault.proofs.RowLanes.{row_ends, row_even, row_further}
use Rattle.vw_fault.proofs.gate.row_word.Goals as goal

-- no mark is left out yet
pub loop-input-init : goal.loop-input-init
loop-input-init c = λ one its lane low. ap (λ (b : Bool). b && row_matches one.marks (bits_at lane c.args.words.now c.args.ins.now)) (lane_ones lane low)

-- one mark more
pub loop-input-preserved : goal.loop-input-preserved
loop-input-preserved c = λ one its lane low.
    let nets = c.args.ins.now in
    let place = c.loop-input.input in
    let net = get_or nets place 0 in
    let bit = λ (at : ℕ). bit_of (get_or c.args.words.now at 0) lane in
    let here = c.mark_word-matched.ensures lane low ∙ ap (λ (word : ℕ). mark_matches c.mark.result (bit_of word lane)) c.get.ensures in
    row_further c.args.cover.now c.args.row place one c.mark.result bit nets net _ _ _ _ its c.mark.ensures (slice_get-get_or nets place 0 c.loop-input-test.true) here (lane_and c.loop-input.matched c.mark_word-matched.result lane) (c.loop-input.invariant one its lane low)

-- there are as many marks as nets
pub returns : goal.returns
returns c = λ one its lane low.
    row_ends one.marks _ c.loop-input.input _ _ (omega (arith, row_even c.args.cover.now c.args.row one its, c.requires.arity, c.loop-input-test.false)) (c.loop-input.invariant one its lane low)
