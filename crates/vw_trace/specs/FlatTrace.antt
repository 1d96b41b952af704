-- The trace of a netlist, of which the last so many outputs are probes.
use Rattle.std.specs.Prelude.{ℕ, ◌-◌, Bool, false, List, length}
use Rattle.vw_net.specs.declared.flat.Flat.{Flat}
use Rattle.vw_net.specs.Cells.{latch_count, start_values}
use Rattle.vw_rows.specs.Trace.{trace_text_from}
use Rattle.vw_trace.specs.Triggers.{shown_count, shown_history}

-- over rows, from a state on; the first clock has the number `first`. With `until` the last output is a trigger: the trace ends behind
-- the first clock in which it is 1, and doesn't show it
abbrev pub trace_until : Bool → ℕ → ℕ → List Bool → Flat → List (List Bool) → List ℕ
trace_until until probes first state flat rows =
    trace_text_from first (shown_count until (length flat.outputs) - probes) probes (latch_count flat.cells) (shown_history until flat state rows)

-- over all rows
abbrev pub trace_from : ℕ → ℕ → List Bool → Flat → List (List Bool) → List ℕ
trace_from = trace_until false

-- from the start values, where free latches start at `unknown`; the first clock has the number 0
abbrev pub flat_trace_until : Bool → ℕ → Bool → Flat → List (List Bool) → List ℕ
flat_trace_until until probes unknown flat rows = trace_until until probes 0 (start_values unknown flat.cells) flat rows

abbrev pub flat_trace : ℕ → Bool → Flat → List (List Bool) → List ℕ
flat_trace probes unknown flat rows = trace_from probes 0 (start_values unknown flat.cells) flat rows
