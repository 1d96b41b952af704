-- The rows of signals of a run.
use Rattle.std.proofs.Common.{◌≡◌, ◌+◌, ◌++◌, ℕ, Bool, List, [], ◌∷◌, length, arith}
use Rattle.std.specs.List.{All}
use Rattle.std.proofs.lemmas.List.{length-append}
use Rattle.std.proofs.lemmas.List.Elements.{All-cons, All-nil}
use Rattle.vw_net.specs.declared.flat.Flat.{Flat}
use Rattle.vw_net.specs.Cells.{latch_count}
use Rattle.vw_net.specs.History.{outputs_at, next_state, flat_history}
use Rattle.vw_net.proofs.Counts.{length-outputs_at, length-next_state}
use Rattle.vw_wave.specs.FlatWave.{signal_rows}

-- each row has a bit for each output and each latch
pub wide_rows : (flat : Flat) (signals : ℕ) → signals ≡ length flat.outputs + latch_count flat.cells → (state : List Bool) (rows : List (List Bool)) → length state ≡ latch_count flat.cells
    → All (λ (row : List Bool). length row ≡ signals) (signal_rows (flat_history flat state rows))
wide_rows flat signals fit state [] latches = All-nil (λ (row : List Bool). length row ≡ signals)
wide_rows flat signals fit state (row ∷ rows) latches =
    let shown = outputs_at flat row state in
    let next = next_state flat row state in
    let here : length (shown ++ state) ≡ signals = omega (arith, length-append shown state, length-outputs_at flat row state, latches, fit) in
    All-cons (λ (bits : List Bool). length bits ≡ signals) (shown ++ state) (signal_rows (flat_history flat next rows)) here (wide_rows flat signals fit next rows (length-next_state flat row state))
