-- the pairs of the needs so far, and those of the rest
use Rattle.std.proofs.Common.{◌≡◌, ◌++◌, drop}
use Rattle.vw_check.specs.Steps.Tables.{need_pairs}
use Rattle.vw_check.proofs.wires.need_table.Given as goal

abbrev pub invariant-loop-need : goal.invariant-loop-need
invariant-loop-need l = l.pairs.items ++ need_pairs (drop l.need-index l.needs) ≡ need_pairs l.needs
