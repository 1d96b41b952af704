-- what is written, the rows that are left, and the state
use Rattle.std.proofs.Common.{◌≡◌, ◌+◌, ◌-◌, ◌*◌, ◌++◌, ◌∷◌, []}
use Rattle.std.specs.List.{flat_map, range_with_len}
use Rattle.vw_gen.specs.Draws.{drawn_state}
use Rattle.vw_gen.specs.Stimulus.{drawn_bits}
use Rattle.vw_gen.proofs.stimuli.stimulus.Given as goal

abbrev pub invariant-loop-row : goal.invariant-loop-row
invariant-loop-row l = (l.text.items ++ flat_map (λ row. drawn_bits (l.n + 1) (8 * row) ++ 10 ∷ []) (range_with_len l._row (300 - l._row)) ≡ flat_map (λ row. drawn_bits (l.n + 1) (8 * row) ++ 10 ∷ []) (range_with_len 0 300))
    × (l.draws ≡ drawn_state (l.n + 1) (8 * l._row))
