-- what was folded so far is small, and the rest is folded onto it
use Rattle.std.proofs.Common.{◌≡◌, ◌<◌, ◌+◌, ◌*◌, ◌%◌, ◌^◌, drop, fold}
use Rattle.vw_gen.specs.Summary.{folded}
use Rattle.vw_gen.proofs.summaries.folded.Given as goal

abbrev pub invariant-loop-byte : goal.invariant-loop-byte
invariant-loop-byte l = record {
  small : l.so_far < 2 ^ 32;
  is : fold (λ so_far byte. (so_far * 31 + byte) % 4294967296) l.so_far (drop l.byte-index l.trace) ≡ folded l.trace;
}
