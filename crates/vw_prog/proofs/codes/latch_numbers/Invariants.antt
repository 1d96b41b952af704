-- those of the latches so far, and those of the rest
use Rattle.std.proofs.Common.{◌≡◌, ◌++◌, drop, map}
use Rattle.vw_prog.specs.declared.owners.OwnLatch.{OwnLatch}
use Rattle.vw_prog.proofs.codes.latch_numbers.Given as goal

abbrev pub invariant-loop-latch : goal.invariant-loop-latch
invariant-loop-latch l = l.numbers.items ++ map (λ (latch : OwnLatch). latch.number) (drop l.latch-index l.own) ≡ map (λ (latch : OwnLatch). latch.number) l.own
