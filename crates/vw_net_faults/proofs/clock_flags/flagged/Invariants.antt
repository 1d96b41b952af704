-- the numbers so far are flagged
use Rattle.std.proofs.Common.{◌≡◌, ◌<◌, ℕ, Some, length, take, slice_get}
use Rattle.vw_net.specs.Order.{is_among}
use Rattle.vw_net_faults.proofs.clock_flags.flagged.Given as goal

abbrev pub invariant-loop-number : goal.invariant-loop-number
invariant-loop-number l = record {
  long : length l.clock_flags.items ≡ l.count;
  flagged : (place : ℕ) → place < l.count → slice_get l.clock_flags.items place ≡ Some (is_among (take l.number-index l.numbers) place);
}
