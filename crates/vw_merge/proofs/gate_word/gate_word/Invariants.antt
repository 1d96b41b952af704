-- the rows so far, and what is left of them, decide
use Rattle.std.proofs.Common.{◌≡◌, ◌<◌, ◌||◌, ℕ, drop}
use Rattle.std.specs.List.{list_any}
use Rattle.vw_net.specs.Mark.{row_matches}
use Rattle.vw_net.specs.TruthTable.{bit_of}
use Rattle.vw_merge.specs.Words.{bits_of}
use Rattle.vw_merge.proofs.gate_word.gate_word.Given as goal

abbrev pub invariant-loop-row : goal.invariant-loop-row
invariant-loop-row l =
    (lane : ℕ) → lane < 64
    → (bit_of l.matched lane || list_any (λ one. row_matches one.marks (bits_of lane l.words)) (drop l.row l.cover.rows)) ≡ list_any (λ one. row_matches one.marks (bits_of lane l.words)) l.cover.rows
