-- the marks so far, and what is left of them, decide
use Rattle.std.proofs.Common.{◌≡◌, ◌<◌, ◌&&◌, ℕ, drop, Some, slice_get}
use Rattle.vw_net.specs.declared.cover.Row.{Row}
use Rattle.vw_net.specs.Mark.{row_matches}
use Rattle.vw_net.specs.TruthTable.{bit_of}
use Rattle.vw_merge.specs.Words.{bits_of}
use Rattle.vw_merge.proofs.gate_word.row_word.Given as goal

abbrev pub invariant-loop-input : goal.invariant-loop-input
invariant-loop-input l =
    (one : Row) → slice_get l.cover.rows l.row ≡ Some one → (lane : ℕ) → lane < 64
    → (bit_of l.matched lane && row_matches (drop l.input one.marks) (bits_of lane (drop l.input l.words))) ≡ row_matches one.marks (bits_of lane l.words)
