-- the characters so far
use Rattle.std.proofs.Common.{◌≡◌, ◌++◌, drop, map, cond}
use Rattle.vw_text.proofs.print.push_bits.Given as goal

abbrev pub invariant-loop-bit : goal.invariant-loop-bit
invariant-loop-bit l = l.text.items ++ map (λ b. cond b 49 48) (drop l.bit-index l.bits) ≡ l.fn.text.items ++ map (λ b. cond b 49 48) l.bits
