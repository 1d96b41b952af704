-- what the search finds from here on it finds, and the rest of the word gets shorter
use Rattle.std.proofs.Common.{length}
use Rattle.vw_flat.proofs.SearchSteps.{IsOnTheWay}
use Rattle.vw_flat.proofs.probe.probe_number.Given as goal

abbrev pub invariant-loop-name : goal.invariant-loop-name
invariant-loop-name l = IsOnTheWay l.elaborated l.probe l.instance l.name

abbrev pub decreases-loop-name : goal.decreases-loop-name
decreases-loop-name l = length l.name
