-- The wave of what a netlist does.
use Rattle.std.specs.Prelude.{ℕ, ◌+◌, Bool, false, List, [], ◌∷◌, ◌++◌, length}
use Rattle.vw_net.specs.declared.flat.Flat.{Flat}
use Rattle.vw_net.specs.Cells.{start_values}
use Rattle.vw_net.specs.History.{History}
use Rattle.vw_text.specs.Physical.{lines_text}
use Rattle.vw_trace.specs.Triggers.{shown_history}
use Rattle.vw_vcd.specs.Lines.{lines_of_clocks, time_line, wave_text_from}
use Rattle.vw_vcd.specs.Progress.{Progress}

-- the values of the signals in each clock: its outputs, and behind them the latch values before its step
abbrev pub joined_rows : List (List Bool) → List (List Bool) → List (List Bool)
joined_rows [] states = []
joined_rows (row ∷ outputs) [] = []
joined_rows (row ∷ outputs) (state ∷ states) = (row ++ state) ∷ joined_rows outputs states

-- those of the clocks of a history
abbrev pub signal_rows : History → List (List Bool)
signal_rows history = joined_rows history.outputs history.states

-- the wave over rows, from a state on, where the signals have these names; the first clock has the number `first`. With `until` the
-- last output is a trigger: the wave ends behind the first clock in which it is 1, and doesn't show it
abbrev pub wave_until : Bool → List (List ℕ) → ℕ → List Bool → Flat → List (List Bool) → List ℕ
wave_until until names first state flat rows = wave_text_from first names (signal_rows (shown_history until flat state rows))

-- over all rows
abbrev pub wave_from : List (List ℕ) → ℕ → List Bool → Flat → List (List Bool) → List ℕ
wave_from = wave_until false

-- from the start values, where free latches start at `unknown`; the first clock has the number 0
abbrev pub flat_wave_until : Bool → List (List ℕ) → Bool → Flat → List (List Bool) → List ℕ
flat_wave_until until names unknown flat rows = wave_until until names 0 (start_values unknown flat.cells) flat rows

abbrev pub flat_wave : List (List ℕ) → Bool → Flat → List (List Bool) → List ℕ
flat_wave names unknown flat rows = wave_from names 0 (start_values unknown flat.cells) flat rows

-- what is left of a wave that has seen some clocks, if this is what its netlist still does
abbrev pub wave_left : Progress → History → List ℕ
wave_left seen history =
    lines_text (lines_of_clocks seen.clock seen.last (signal_rows history) ++ time_line (seen.clock + length history.outputs) ∷ [])
