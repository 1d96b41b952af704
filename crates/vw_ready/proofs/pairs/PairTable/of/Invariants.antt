-- the first of the pairs that are in
use Rattle.std.proofs.Common.{◌≡◌, ℕ, drop}
use Rattle.vw_ready.specs.Pairs.{first_pair, pair_in}
use Rattle.vw_ready.proofs.pairs.PairTable.of.Given as goal

abbrev pub invariant-loop-place : goal.invariant-loop-place
invariant-loop-place l = (one other : ℕ) → pair_in l.places one other ≡ first_pair l.place (drop l.place l.pairs) one other
