-- The greatest microcycle of latches, cell by cell.
use Rattle.std.proofs.Common.{◌≡◌, ◌<◌, ◌+◌, ◌∙◌, ◌∷◌, ℕ, suc, List, length, drop, get_or, max, ap, sym, drop-cons, arith}
use Rattle.vw_net.specs.declared.cell.Cell.{Cell}
use Rattle.vw_pipe.specs.Steps.FinishedSchedules.{latest}

pub latest_step : (microcycle_of : ℕ → Cell → ℕ) (period microcycle next start : ℕ) (cells : List Cell) (place : ℕ) (cell : Cell)
    → place < length cells → cell ≡ get_or cells place cell → microcycle ≡ microcycle_of place cell → next ≡ max period microcycle
    → max period (latest microcycle_of place (drop place cells)) ≡ start
    → max next (latest microcycle_of (place + 1) (drop (place + 1) cells)) ≡ start
latest_step microcycle_of period microcycle next start cells place cell within is microcycle_is next_is before =
    let after : suc place ≡ place + 1 = omega arith in
    let cut : drop place cells ≡ cell ∷ drop (suc place) cells =
    drop-cons cells place cell within ∙ ap (λ (one : Cell). one ∷ drop (suc place) cells) (sym is) in
    let its = microcycle_of place cell in
    let latest_from = λ (from : ℕ). latest microcycle_of from (drop from cells) in
    let deep : latest_from place ≡ max its (latest_from (place + 1)) =
    ap (latest microcycle_of place) cut ∙ ap (λ (from : ℕ). max its (latest_from from)) after in
    omega (arith, deep, microcycle_is, next_is, before)
