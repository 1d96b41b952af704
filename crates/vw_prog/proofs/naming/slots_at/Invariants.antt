-- the slots of the nets so far, and those of the rest
use Rattle.std.proofs.Common.{◌≡◌, ◌++◌, drop, map}
use Rattle.vw_prog.specs.Coding.{slot_in}
use Rattle.vw_prog.proofs.naming.slots_at.Given as goal

abbrev pub invariant-loop-net : goal.invariant-loop-net
invariant-loop-net l = l.slots.items ++ map (slot_in l.table) (drop l.net-index l.nets) ≡ map (slot_in l.table) l.nets
