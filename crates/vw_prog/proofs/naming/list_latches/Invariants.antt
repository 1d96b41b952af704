-- the nets of the latches so far, and those of the rest
use Rattle.std.proofs.Common.{◌≡◌, ◌++◌, drop, map}
use Rattle.vw_prog.specs.declared.owners.OwnLatch.{OwnLatch}
use Rattle.vw_prog.proofs.naming.list_latches.Given as goal

abbrev pub invariant-loop-latch : goal.invariant-loop-latch
invariant-loop-latch l = l.list.items ++ map (λ (latch : OwnLatch). latch.net) (drop l.latch-index l.own) ≡ l.fn.list.items ++ map (λ (latch : OwnLatch). latch.net) l.own
