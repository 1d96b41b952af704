use Rattle.std.proofs.Common.{◌≡◌, ◌≤◌, ◌+◌, ◌^◌, ◌<◌, ℕ, Bool, List, length, arith}
use Rattle.vw_net.specs.declared.flat.Flat.{Flat}
use Rattle.vw_net.specs.Cells.{latch_count, start_values}
use Rattle.vw_net.specs.History.{flat_history}
use Rattle.vw_net.proofs.Counts.{latch_count-le, length-outputs_of, length-states_of, length-start_values}
use Rattle.vw_vcd.specs.Replayed.{ReplaysFrom, WavesReplay}
use Rattle.vw_wave.specs.FlatWave.{signal_rows, wave_from}
use Rattle.vw_wave.proofs.WaveLeft.{length-joined}
use Rattle.vw_wave.proofs.SignalRows.{wide_rows}
use Rattle.vw_wave.proofs.laws.waves_of_runs_replay.Goals as goal

-- its rows are few, and each has a bit for each name
from_any : WavesReplay → (names : List (List ℕ)) (first : ℕ) (state : List Bool) (flat : Flat) (rows : List (List Bool)) → length names ≡ length flat.outputs + latch_count flat.cells
    → length state ≡ latch_count flat.cells → first + length rows ≤ 2 ^ 32 → ReplaysFrom first (wave_from names first state flat rows) (length names) (signal_rows (flat_history flat state rows))
from_any replay names first state flat rows fit latches few =
    let history = flat_history flat state rows in
    let outputs = length-outputs_of flat state rows in
    let states = length-states_of flat state rows in
    let long = length-joined history.outputs history.states (omega (arith, outputs, states)) in
    let few_names : length names < 2 ^ 32 = omega (arith, fit, latch_count-le flat.cells, flat.few_cells, flat.few_outputs) in
    let few_rows : first + length (signal_rows history) ≤ 2 ^ 32 = omega (arith, long, outputs, few) in
    replay first names (signal_rows history) few_names few_rows (wide_rows flat (length names) fit state rows latches)

pub returns-clause-from_the_start : goal.returns-clause-from_the_start
returns-clause-from_the_start c names unknown flat rows fit few =
    let short : 0 + length rows ≤ 2 ^ 32 = omega (arith, few) in
    from_any c.waves_replay.ensures names 0 (start_values unknown flat.cells) flat rows fit (length-start_values unknown flat.cells) short

pub returns-clause-from_a_state : goal.returns-clause-from_a_state
returns-clause-from_a_state c = from_any c.waves_replay.ensures
