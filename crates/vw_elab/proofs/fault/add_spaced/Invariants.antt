-- what is left to add gives the rest
use Rattle.std.proofs.Common.{◌≡◌, ◌++◌, drop}
use Rattle.vw_elab.specs.MessageLines.{spaced}
use Rattle.vw_elab.proofs.fault.add_spaced.Given as goal

abbrev pub invariant-loop-name : goal.invariant-loop-name
invariant-loop-name l = l.text.items ++ spaced (drop l.name-index l.names) ≡ l.fn.text.items ++ spaced l.names
