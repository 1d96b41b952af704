use Rattle.vw_link.specs.Chains.{IsOlder, lifts_of}
use Rattle.vw_link.proofs.chain.passed.Given as goal

abbrev pub invariant-loop-from : goal.invariant-loop-from
invariant-loop-from l = IsOlder l.link l.number (lifts_of l.initial.from) l.initial.counted (lifts_of l.from) l.counted
