-- the actions of the entries so far, and those of the rest
use Rattle.std.proofs.Common.{◌≡◌, ◌++◌, drop, map}
use Rattle.vw_prog.specs.Actions.{action_of}
use Rattle.vw_prog.proofs.coding.program_of.Given as goal

abbrev pub invariant-loop-entry : goal.invariant-loop-entry
invariant-loop-entry l = l.actions.items ++ map (action_of l.inputs) (drop l.entry-index l.entries) ≡ map (action_of l.inputs) l.entries
