-- those of the models so far
use Rattle.std.proofs.Common.{take}
use Rattle.std.specs.List.{AllZip}
use Rattle.vw_instances.specs.Steps.Counting.{AreEntries}
use Rattle.vw_instances.proofs.entries.all_entries.Given as goal

abbrev pub invariant-loop-number : goal.invariant-loop-number
invariant-loop-number l = AllZip (λ model list. AreEntries l.targets.design.now l.tables model.items list) (take l.number l.model-items) l.entries.items
