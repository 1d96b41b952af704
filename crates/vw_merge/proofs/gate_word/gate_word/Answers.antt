use Rattle.std.proofs.Common.{◌<◌, ◌≤◌, ◌∙◌, length, sym, arith}
use Rattle.vw_net.specs.declared.cover.Row.{Row}
use Rattle.vw_net.specs.Mark.{row_matches}
use Rattle.vw_merge.specs.Words.{bits_of}
use Rattle.vw_merge.proofs.Lanes.{lane_not, lane_or}
use Rattle.vw_merge.proofs.RowLanes.{rows_end, rows_further_at, value_off, value_on}
use Rattle.vw_merge.proofs.gate_word.gate_word.Goals as goal

-- one row more
pub loop-row-preserved : goal.loop-row-preserved
loop-row-preserved c = λ lane low.
    let within : c.loop-row.row < length c.args.cover.now.rows = omega (arith, c.loop-row-test.true, c.count-row-end.ensures) in
    rows_further_at c.args.cover.now c.loop-row.row (bits_of lane c.args.words.now) _ _ _ _ within (λ one its. c.row_word-matched.ensures one its lane low) (lane_or c.loop-row.matched c.row_word-matched.result lane) (c.loop-row.invariant lane low)

-- where some row matches it is `on`, and else the other value
pub returns-then-on : goal.returns-then-on
returns-then-on c = λ lane low.
    let bits = bits_of lane c.args.words.now in
    let past : length c.args.cover.now.rows ≤ c.loop-row.row = omega (arith, c.loop-row-test.false, c.count-row-end.ensures) in
    value_on c.args.cover.now bits _ (sym c.on.ensures ∙ c.if-on.true) (rows_end (λ (one : Row). row_matches one.marks bits) c.args.cover.now.rows c.loop-row.row _ _ past (c.loop-row.invariant lane low))

pub returns-else-on : goal.returns-else-on
returns-else-on c = λ lane low.
    let bits = bits_of lane c.args.words.now in
    let past : length c.args.cover.now.rows ≤ c.loop-row.row = omega (arith, c.loop-row-test.false, c.count-row-end.ensures) in
    lane_not c.loop-row.matched lane low ∙ value_off c.args.cover.now bits _ (sym c.on.ensures ∙ c.if-on.false) (rows_end (λ (one : Row). row_matches one.marks bits) c.args.cover.now.rows c.loop-row.row _ _ past (c.loop-row.invariant lane low))
