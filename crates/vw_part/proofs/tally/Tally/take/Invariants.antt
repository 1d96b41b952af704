-- the places that are left are still to be counted off
use Rattle.std.proofs.Common.{◌≡◌, ◌+◌, ℕ, length, drop, get_or}
use Rattle.vw_part.specs.Steps.CellNets.{times_among}
use Rattle.vw_part.proofs.tally.Tally.take.Given as goal

abbrev pub invariant-loop-place : goal.invariant-loop-place
invariant-loop-place l = record {
  long : length l.self.counts.items ≡ length l.initial.self.counts.items;
  counts : (place : ℕ) → get_or l.self.counts.items place 0 + times_among l.places place ≡ get_or l.initial.self.counts.items place 0 + times_among (drop l.place-index l.places) place;
}
