use Rattle.std.proofs.Common.{◌≡◌, ◌≤◌, ◌+◌, ◌∙◌, ℕ, false, length, get_or, Some, ap, sym, refl, arith}
use Rattle.std.proofs.lemmas.List.{length-set}
use Rattle.std.proofs.lemmas.Option.{slice_get_read}
use Rattle.vw_net.specs.TruthTable.{bit_of}
use Rattle.vw_net.proofs.Counts.{latch_count-le}
use Rattle.vw_fault.specs.Steps.Lanes.{find_in, lane_bits}
use Rattle.vw_fault.proofs.Lanes.{lane_at, lane_set, length-lane_bits}
use Rattle.vw_fault.proofs.Latches.{latch_number, left_past_gate, left_past_latch, put_past_gate, put_past_latch}
use Rattle.vw_fault.proofs.clock.put_latches.Goals as goal
use Rattle.vw_fault.proofs.clock.put_latches.Goals.{in-Latch, in_default}

-- there are at most as many latches as cells
pub overflow_add-latch : goal.overflow_add-latch
overflow_add-latch c = omega (arith, latch_count-le c.cells-cell-items.result.now, ap length c.cells-cell-items.ensures, c.args.flat.now.few_cells, c.loop-number.invariant.left)

-- what is found of a latch is written to its net; a gate changes nothing
pub loop-number-preserved : goal.loop-number-preserved
loop-number-preserved c =
    let cells = c.cells-cell-items.result.now in
    let first = c.inputs-first.result in
    let place = c.loop-number.number in
    let old = c.loop-number.invariant in
    let here = slice_get_read cells _ place c.cell-item.result refl c.loop-number-test.true c.cell-item.is in
    let size : first + length cells ≡ length c.loop-number.words = omega (arith, c.inputs-first.ensures, ap length c.cells-cell-items.ensures, c.requires.nets, old.nets) in
    elim c.match-cell.branch [
      | in-Latch w ↦
          let latch = here ∙ ap Some w.in-Latch.is in
          let its = latch_number cells place c.loop-number.latch old.left in
          let state = c.args.state.now in
          record {
            nets = ap length (w.words-is ∙ w.set.ensures) ∙ length-set c.loop-number.words (first + place) w.found.result ∙ old.nets;
            left = left_past_latch cells place _ _ w.in-Latch.d w.in-Latch.init latch w.latch-is old.left;
            put = λ lane low.
                let bit = ap (λ (word : ℕ). bit_of word lane) w.get.ensures ∙ sym (lane_at lane state c.loop-number.latch) ∙ ap (λ (at : ℕ). get_or (lane_bits lane state) at false) its in
                let is = w.found.ensures lane ∙ ap (find_in c.args.stuck.now lane (first + place)) bit in
                let fits : first + length cells ≤ length (lane_bits lane c.loop-number.words) = omega (arith, size, length-lane_bits lane c.loop-number.words) in
                put_past_latch (find_in c.args.stuck.now lane) first cells _ _ _ place (old.put lane low) w.in-Latch.d w.in-Latch.init (bit_of w.found.result lane) _ latch fits is (lane_set lane c.loop-number.words _ (first + place) w.found.result (w.words-is ∙ w.set.ensures));
          }
      | in_default w ↦
          let gate = here ∙ ap Some w.in_default.is in
          record {
            nets = ap length w.words-is ∙ old.nets;
            left = left_past_gate cells place _ _ w.in_default.field-0 w.in_default.field-1 gate w.latch-is old.left;
            put = λ lane low. put_past_gate (find_in c.args.stuck.now lane) first cells _ _ _ place (old.put lane low) w.in_default.field-0 w.in_default.field-1 _ gate (ap (lane_bits lane) w.words-is);
          }
    ]
