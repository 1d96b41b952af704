-- the nets that are left are still to be taken out
use Rattle.std.proofs.Common.{◌≡◌, drop, length}
use Rattle.vw_prog.specs.Coding.{cleared}
use Rattle.vw_prog.proofs.naming.clear.Given as goal

abbrev pub invariant-loop-net : goal.invariant-loop-net
invariant-loop-net l = (length l.table ≡ length l.initial.table) × (cleared (drop l.net-index l.nets) l.table ≡ cleared l.nets l.initial.table)
