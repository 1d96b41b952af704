-- each node has its own among the entries so far
use Rattle.std.proofs.Common.{ℕ, [], take}
use Rattle.vw_prog.specs.Steps.{AreOwnEntries, lists_of}
use Rattle.vw_prog.proofs.build.deal_entries.Given as goal

abbrev pub invariant-loop-entry : goal.invariant-loop-entry
invariant-loop-entry l = (nodes : ℕ) → AreOwnEntries nodes [] (lists_of l.fn.lists.items) → AreOwnEntries nodes (take l.entry-index l.entries) (lists_of l.lists.items)
