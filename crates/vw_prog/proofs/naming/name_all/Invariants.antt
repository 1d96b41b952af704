-- the nets so far have their slots
use Rattle.std.proofs.Common.{◌≡◌, drop, length}
use Rattle.vw_prog.specs.Coding.{IsTable, named_all}
use Rattle.vw_prog.proofs.naming.name_all.Given as goal

abbrev pub invariant-loop-net : goal.invariant-loop-net
invariant-loop-net l = record {
  long : length l.table ≡ length l.initial.table;
  is : IsTable l.nets.items l.table;
  more : named_all (length l.initial.table) l.nets.items (drop l.net-index l.list) ≡ named_all (length l.initial.table) l.fn.nets.items l.list;
}
