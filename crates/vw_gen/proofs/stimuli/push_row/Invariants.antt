-- what is written, the bits that are left, and the state
use Rattle.std.proofs.Common.{◌≡◌, ◌+◌, ◌-◌, ◌++◌, ◌∷◌, []}
use Rattle.std.specs.List.{flat_map, range_with_len}
use Rattle.vw_gen.specs.Draws.{drawn_state, draw}
use Rattle.vw_gen.proofs.stimuli.push_row.Given as goal

abbrev pub invariant-loop-column : goal.invariant-loop-column
invariant-loop-column l = (l.text.items ++ flat_map (λ column. (48 + draw l.fn.draws (column + 1) 2) ∷ []) (range_with_len l._column (8 - l._column)) ≡ l.fn.text.items ++ flat_map (λ column. (48 + draw l.fn.draws (column + 1) 2) ∷ []) (range_with_len 0 8))
    × (l.draws ≡ drawn_state l.fn.draws l._column)
