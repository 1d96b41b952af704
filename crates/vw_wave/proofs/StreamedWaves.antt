-- A wave that is written over what a netlist does.
use Rattle.std.proofs.Common.{◌≡◌, ◌++◌, ℕ, Bool, List, length}
use Rattle.vw_net.specs.declared.flat.Flat.{Flat}
use Rattle.vw_net.specs.History.{History}
use Rattle.vw_text.specs.Physical.{lines_text}
use Rattle.vw_trace.specs.Triggers.{shown_history}
use Rattle.vw_trace.proofs.Triggered.{shown_even}
use Rattle.vw_vcd.specs.Lines.{lines_of_head, wave_text_from}
use Rattle.vw_vcd.specs.Progress.{Progress}
use Rattle.vw_wave.specs.FlatWave.{signal_rows, wave_left, wave_until}

-- what a fresh wave has left behind a head is the whole wave from this clock on
abbrev pub IsFresh : ℕ → Progress → Type 0
IsFresh first seen = (names : List (List ℕ)) (history : History) → length history.outputs ≡ length history.states
    → lines_text (lines_of_head names) ++ wave_left seen history ≡ wave_text_from first names (signal_rows history)

-- so a head and what is left over rows are the wave over these rows
pub whole_wave : (first : ℕ) (seen : Progress) → IsFresh first seen → (until : Bool) (names : List (List ℕ)) (state : List Bool) (flat : Flat) (rows : List (List Bool))
    → lines_text (lines_of_head names) ++ wave_left seen (shown_history until flat state rows) ≡ wave_until until names first state flat rows
whole_wave first seen fresh until names state flat rows = fresh names (shown_history until flat state rows) (shown_even until flat state rows)
