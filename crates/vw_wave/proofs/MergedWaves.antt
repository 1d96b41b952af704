-- A netlist that does the same has the same wave.
use Rattle.std.proofs.Common.{◌≡◌, ◌∙◌, ℕ, Bool, List, ap}
use Rattle.vw_net.specs.declared.flat.Flat.{Flat}
use Rattle.vw_net.specs.Cells.{start_values}
use Rattle.vw_net.specs.History.{History}
use Rattle.vw_vcd.specs.Lines.{wave_text_from}
use Rattle.vw_merge.specs.Same.{DoesTheSame}
use Rattle.vw_trace.proofs.MergedTraces.{same_shown}
use Rattle.vw_wave.specs.FlatWave.{flat_wave_until, signal_rows, wave_until}

-- from any clock and state on
pub same_wave_from : (until : Bool) (names : List (List ℕ)) (first : ℕ) (state : List Bool) (flat other : Flat) (rows : List (List Bool)) → DoesTheSame flat other
    → wave_until until names first state other rows ≡ wave_until until names first state flat rows
same_wave_from until names first state flat other rows same = ap (λ (history : History). wave_text_from first names (signal_rows history)) (same_shown until flat other state rows same)

-- and from the start
pub same_wave : (until : Bool) (names : List (List ℕ)) (unknown : Bool) (flat other : Flat) (rows : List (List Bool)) → DoesTheSame flat other → flat_wave_until until names unknown other rows ≡ flat_wave_until until names unknown flat rows
same_wave until names unknown flat other rows same =
    ap (λ (state : List Bool). wave_until until names 0 state other rows) (same.starts unknown) ∙ same_wave_from until names 0 (start_values unknown flat.cells) flat other rows same
