-- the ops, loops and gates of the actions so far, and those of the rest
use Rattle.std.proofs.Common.{◌≡◌, ◌++◌, [], drop, length}
use Rattle.vw_prog.specs.Coding.{all_gates, all_loops, all_ops, all_wide}
use Rattle.vw_prog.proofs.coding.parts_of.Given as goal

abbrev pub invariant-loop-action : goal.invariant-loop-action
invariant-loop-action l = record {
  loops : all_loops l.table l.parts.loops.items (drop l.action-index l.actions) ≡ all_loops l.table [] l.actions;
  gates : l.parts.gates.items ++ all_gates l.flat l.table (drop l.action-index l.actions) ≡ all_gates l.flat l.table l.actions;
  wide : l.parts.wide.items ++ all_wide l.flat l.table (drop l.action-index l.actions) ≡ all_wide l.flat l.table l.actions;
  ops : l.parts.ops.items ++ all_ops l.flat l.table (length l.parts.gates.items) (length l.parts.wide.items) l.parts.loops.items (drop l.action-index l.actions) ≡ all_ops l.flat l.table 0 0 [] l.actions;
}
