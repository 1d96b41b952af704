-- the gates so far come behind what they read
use Rattle.std.proofs.Common.{◌<◌, ℕ}
use Rattle.vw_pipe.specs.Steps.Turns.{IsBehindReads}
use Rattle.vw_pipe.proofs.turns.gates_follow.Given as goal

abbrev pub invariant-loop-number : goal.invariant-loop-number
invariant-loop-number l = (place : ℕ) → place < l.number-index
    → IsBehindReads l.given.ordered.now l.given.chip_of.now l.given.routes.now l.turns.nets.items l.turns.routes.items place
