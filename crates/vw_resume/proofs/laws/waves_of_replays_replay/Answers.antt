use Rattle.std.proofs.Common.{◌≡◌, ◌≤◌, ◌+◌, ◌++◌, ◌^◌, ◌∙◌, List, Bool, length, drop, refl, sym, ap, subst, length-append, arith}
use Rattle.std.proofs.lemmas.List.{drop_at}
use Rattle.vw_net.specs.Cells.{start_values}
use Rattle.vw_net.specs.History.{History, flat_history, state_after}
use Rattle.vw_net.proofs.Counts.{length-outputs_of, length-start_values, length-state_after, length-states_of}
use Rattle.vw_vcd.specs.Replayed.{ReplaysFrom}
use Rattle.vw_wave.specs.FlatWave.{joined_rows, signal_rows, wave_from}
use Rattle.vw_wave.proofs.WaveLeft.{joined_more, length-joined}
use Rattle.vw_resume.proofs.laws.waves_of_replays_replay.Goals as goal

-- the rows that are passed over are the first, and so are their signals
pub returns : goal.returns
returns c names unknown flat rows more fit few =
    let start = start_values unknown flat.cells in
    let latches = state_after flat start rows in
    let one = flat_history flat start rows in
    let behind = flat_history flat latches more in
    let outputs = length-outputs_of flat start rows in
    let states = length-states_of flat start rows in
    let same : length one.outputs ≡ length one.states = outputs ∙ sym states in
    let front = joined_rows one.outputs one.states in
    let signals : signal_rows (flat_history flat start (rows ++ more)) ≡ front ++ signal_rows behind =
    ap (λ (history : History). signal_rows history) (c.histories_join.ensures flat start rows more) ∙ joined_more one.outputs one.states behind.outputs behind.states same in
    let left : drop (length rows) (signal_rows (flat_history flat start (rows ++ more))) ≡ signal_rows behind =
    ap (λ (all : List (List Bool)). drop (length rows) all) signals ∙ drop_at front (signal_rows behind) (length rows) (length-joined one.outputs one.states same ∙ outputs) in
    let short : length rows + length more ≤ 2 ^ 32 = omega (arith, few, length-append rows more) in
    subst (λ (shown : List (List Bool)). ReplaysFrom (length rows) (wave_from names (length rows) latches flat (drop (length rows) (rows ++ more))) (length names) shown) (sym left)
    (subst (λ (these : List (List Bool)). ReplaysFrom (length rows) (wave_from names (length rows) latches flat these) (length names) (signal_rows behind)) (sym (drop_at rows more (length rows) refl))
    (c.waves_of_runs_replay.ensures.from_a_state names (length rows) latches flat more fit (length-state_after flat start rows (length-start_values unknown flat.cells)) short))
