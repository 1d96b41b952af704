-- the row after the bits that are left, and how long the list and the row are
use Rattle.std.proofs.Common.{◌≡◌, drop, [], get_or, length, set}
use Rattle.vw_answer.specs.Latches.{with_latches}
use Rattle.vw_answer.proofs.rows.put_latches.Given as goal

abbrev pub invariant-loop-i : goal.invariant-loop-i
invariant-loop-i l = record {
  left : set l.latches l.clock (with_latches (drop l.i l.numbers) (drop l.i l.bits) (get_or l.latches l.clock [])) ≡ set l.fn.latches l.clock (with_latches l.numbers l.bits (get_or l.fn.latches l.clock []));
  count : length l.latches ≡ length l.fn.latches;
  wide : length (get_or l.latches l.clock []) ≡ length (get_or l.fn.latches l.clock []);
}
