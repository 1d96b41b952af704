-- the bits so far, and those of what is left
use Rattle.std.proofs.Common.{◌≡◌, ◌==◌, ◌++◌, drop, map}
use Rattle.vw_rows.proofs.line_so_far.keep_bits.Given as goal

abbrev pub invariant-loop-byte : goal.invariant-loop-byte
invariant-loop-byte l = l.bits.items ++ map (λ b. b == 49) (drop l.byte-index l.bytes) ≡ l.fn.bits.items ++ map (λ b. b == 49) l.bytes
