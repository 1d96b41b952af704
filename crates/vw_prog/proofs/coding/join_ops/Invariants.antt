-- the ops from here on are joined
use Rattle.std.proofs.Common.{◌≡◌, take, drop, length}
use Rattle.vw_prog.specs.Coding.{joined_ops}
use Rattle.vw_prog.proofs.coding.join_ops.Given as goal

abbrev pub invariant-loop-place : goal.invariant-loop-place
invariant-loop-place l = record {
  long : length l.ops ≡ length l.initial.ops;
  before : take l.place l.ops ≡ take l.place l.initial.ops;
  after : drop l.place l.ops ≡ joined_ops (drop l.place l.initial.ops);
}
