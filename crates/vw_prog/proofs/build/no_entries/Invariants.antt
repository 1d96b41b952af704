-- the lists so far are empty
use Rattle.std.proofs.Common.{[]}
use Rattle.vw_prog.specs.Steps.{AreOwnEntries, lists_of}
use Rattle.vw_prog.proofs.build.no_entries.Given as goal

abbrev pub invariant-loop : goal.invariant-loop
invariant-loop l = AreOwnEntries l.counter [] (lists_of l.lists.items)
