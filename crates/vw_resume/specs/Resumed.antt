-- Runs that go on from a state. Source: this project.
use Rattle.std.specs.Prelude.{ℕ, Bool, false, List, drop}
use Rattle.vw_net.specs.declared.flat.Flat.{Flat}
use Rattle.vw_trace.specs.FlatTrace.{trace_from, trace_until}
use Rattle.vw_wave.specs.FlatWave.{wave_until}

-- the trace of a netlist over rows, from these latch values on; the first clock has the number `clock`
abbrev pub resumed_trace : Flat → ℕ → List Bool → List (List Bool) → List ℕ
resumed_trace flat clock latches rows = trace_from 0 clock latches flat rows

-- the same over all rows from the beginning on, of which those before the clock are passed over; the last so many outputs are probes,
-- and with `until` the one behind them is a trigger
abbrev pub replayed_trace_until : Bool → ℕ → Flat → ℕ → List Bool → List (List Bool) → List ℕ
replayed_trace_until until probes flat clock latches rows = trace_until until probes clock latches flat (drop clock rows)

abbrev pub replayed_trace : ℕ → Flat → ℕ → List Bool → List (List Bool) → List ℕ
replayed_trace = replayed_trace_until false

-- and the wave over them, where the signals have these names
abbrev pub replayed_wave_until : Bool → List (List ℕ) → Flat → ℕ → List Bool → List (List Bool) → List ℕ
replayed_wave_until until names flat clock latches rows = wave_until until names clock latches flat (drop clock rows)

abbrev pub replayed_wave : List (List ℕ) → Flat → ℕ → List Bool → List (List Bool) → List ℕ
replayed_wave = replayed_wave_until false
