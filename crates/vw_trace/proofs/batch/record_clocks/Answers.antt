use Rattle.std.proofs.Common.{◌≡◌, ◌<◌, ◌+◌, ◌∷◌, List, Bool, length, drop, get_or, arith, sym, ◌∙◌, ap}
use Rattle.std.proofs.lemmas.List.{length-set}
use Rattle.std.proofs.lemmas.List.Elements.{All-set}
use Rattle.std.proofs.lemmas.Option.{get_or_from_slice_get}
use Rattle.vw_net.specs.Cells.{latch_count}
use Rattle.vw_net.specs.History.{outputs_at, outputs_of, states_of}
use Rattle.vw_net.proofs.Counts.{length-next_state, length-outputs_at}
use Rattle.vw_trace.proofs.Clocks.{written_more, outputs_of-drop, states_of-drop, state_after-drop}
use Rattle.vw_trace.proofs.batch.record_clocks.Goals as goal

pub loop-place-preserved : goal.loop-place-preserved
loop-place-preserved c =
    let flat = c.args.simulator.now.flat in
    let kept = c.loop-place.invariant in
    let clock = c.record_clock.ensures in
    let i = c.loop-place.place in
    let state = c.loop-place.state in
    let row = c.row.result.now in
    let rows = c.args.rows.now in
    let was = c.loop-place.batch in
    let new = c.record_clock.new.batch in
    let after = c.record_clock.new.state in
    let here = outputs_at flat row state in
    let within : i < length rows = omega (arith, c.loop-place-test.true, c.len-place-end.ensures) in
    let is : row ≡ get_or rows i row = sym (get_or_from_slice_get rows i row row c.row.ensures) in
    let outputs : outputs_of flat state (drop i rows) ≡ here ∷ outputs_of flat after (drop (i + 1) rows) = rw (clock.state) (outputs_of-drop flat state row rows i within is) in
    let states : states_of flat state (drop i rows) ≡ state ∷ states_of flat after (drop (i + 1) rows) = rw (clock.state) (states_of-drop flat state row rows i within is) in
    record {
      outputs = rw (clock.outputs) (written_more was.outputs i here (outputs_of flat state (drop i rows)) (outputs_of flat after (drop (i + 1) rows)) (outputs_of flat c.args.state.now rows) (omega (arith, within, kept.output_count)) outputs kept.outputs);
      states = rw (clock.states) (written_more was.states i state (states_of flat state (drop i rows)) (states_of flat after (drop (i + 1) rows)) (states_of flat c.args.state.now rows) (omega (arith, within, kept.state_count)) states kept.states);
      state = rw (clock.state) (sym (state_after-drop flat state row rows i within is) ∙ kept.state);
      output_count = rw (clock.outputs) (length-set was.outputs i here ∙ kept.output_count);
      state_count = rw (clock.states) (length-set was.states i state ∙ kept.state_count);
      output_widths = rw (clock.outputs) (All-set (λ (bits : List Bool). length bits ≡ length flat.outputs) was.outputs i here (length-outputs_at flat row state) kept.output_widths);
      state_widths = rw (clock.states) (All-set (λ (bits : List Bool). length bits ≡ latch_count flat.cells) was.states i state kept.latches kept.state_widths);
      latches = ap (λ (bits : List Bool). length bits) clock.state ∙ length-next_state flat row state;
      nets = clock.nets ∙ kept.nets;
    }
