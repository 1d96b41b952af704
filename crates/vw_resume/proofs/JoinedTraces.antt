-- The trace of a run that was cut in two.
use Rattle.std.proofs.Common.{◌≡◌, ◌+◌, ◌-◌, ℕ, Bool, List, [], ◌∷◌, ◌++◌, length, sym, ◌∙◌, ap, ap₂, subst, append_assoc, arith, length-append}
use Rattle.vw_net.specs.declared.flat.Flat.{Flat}
use Rattle.vw_net.specs.Cells.{latch_count, start_values}
use Rattle.vw_net.specs.History.{History, flat_history, joined, state_after}
use Rattle.vw_net.proofs.Counts.{length-outputs_of, length-states_of}
use Rattle.vw_rows.specs.Trace.{trace_text_from}
use Rattle.vw_trace.specs.FlatTrace.{flat_trace, trace_from}
use Rattle.vw_trace.proofs.Streaming.{HistoriesJoin}
use Rattle.vw_resume.specs.Joined.{HasLines, IsJoined}
use Rattle.vw_resume.proofs.TraceAsLines.{head_line, clock_lines, clock_lines-append, end_line, trace_has_lines}

-- of two histories, the one behind the other, whose first clock has the number that the first one has come to
module _ (first outputs probes latches : ℕ) (one more : History) (same : length one.outputs ≡ length one.states) where
  abbrev head : List ℕ
  head = head_line outputs probes latches

  abbrev clocks : List (List ℕ)
  clocks = clock_lines first one.outputs one.states

  abbrev later : ℕ → List (List ℕ)
  later count = clock_lines (first + count) more.outputs more.states

  abbrev last : ℕ → List ℕ
  last count = end_line (first + count + length more.outputs) more.last

  whole_lines : head ∷ (clock_lines first (one.outputs ++ more.outputs) (one.states ++ more.states) ++ end_line (first + length (one.outputs ++ more.outputs)) more.last ∷ [])
      ≡ (head ∷ clocks) ++ (later (length one.outputs) ++ last (length one.outputs) ∷ [])
  whole_lines =
      let count : first + length (one.outputs ++ more.outputs) ≡ first + length one.outputs + length more.outputs = omega (arith, length-append one.outputs more.outputs) in
      ap (λ (lines : List (List ℕ)). head ∷ lines)
      (ap₂ (λ (lines : List (List ℕ)) (n : ℕ). lines ++ end_line n more.last ∷ []) (clock_lines-append first one.outputs one.states more.outputs more.states same) count
      ∙ append_assoc clocks (later (length one.outputs)) (last (length one.outputs) ∷ []))

  pub traces_joined : IsJoined (trace_text_from first outputs probes latches one) (trace_text_from (first + length one.outputs) outputs probes latches more) (trace_text_from first outputs probes latches (joined one more))
  traces_joined = record {
    front = head ∷ clocks;
    last = end_line (first + length one.outputs) one.last;
    first = head;
    rest = later (length one.outputs) ++ last (length one.outputs) ∷ [];
    of_one = trace_has_lines first outputs probes latches one;
    of_other = trace_has_lines (first + length one.outputs) outputs probes latches more;
    of_whole = subst (HasLines (trace_text_from first outputs probes latches (joined one more))) whole_lines (trace_has_lines first outputs probes latches (joined one more));
  }

-- ---- of a netlist

module _ (probes : ℕ) (flat : Flat) (join : HistoriesJoin flat) where
  pub joined_from_state : (clock : ℕ) (state : List Bool) (rows more : List (List Bool))
      → IsJoined (trace_from probes clock state flat rows) (trace_from probes (clock + length rows) (state_after flat state rows) flat more) (trace_from probes clock state flat (rows ++ more))
  joined_from_state clock state rows more =
      let one = flat_history flat state rows in
      let behind = flat_history flat (state_after flat state rows) more in
      let count : length one.outputs ≡ length rows = length-outputs_of flat state rows in
      let same : length one.outputs ≡ length one.states = count ∙ sym (length-states_of flat state rows) in
      let trace : History → List ℕ = λ history. trace_text_from clock (length flat.outputs - probes) probes (latch_count flat.cells) history in
      subst (λ (history : History). IsJoined (trace_from probes clock state flat rows) (trace_from probes (clock + length rows) (state_after flat state rows) flat more) (trace history)) (sym (join state rows more))
      (subst (λ (n : ℕ). IsJoined (trace_from probes clock state flat rows) (trace_from probes (clock + n) (state_after flat state rows) flat more) (trace (joined one behind))) count
      (traces_joined clock (length flat.outputs - probes) probes (latch_count flat.cells) one behind same))

  pub joined_from_start : (unknown : Bool) (rows more : List (List Bool))
      → IsJoined (flat_trace probes unknown flat rows) (trace_from probes (length rows) (state_after flat (start_values unknown flat.cells) rows) flat more) (flat_trace probes unknown flat (rows ++ more))
  joined_from_start unknown rows more =
      let start = start_values unknown flat.cells in
      let count : 0 + length rows ≡ length rows = omega arith in
      subst (λ (n : ℕ). IsJoined (flat_trace probes unknown flat rows) (trace_from probes n (state_after flat start rows) flat more) (flat_trace probes unknown flat (rows ++ more))) count
      (joined_from_state 0 start rows more)
