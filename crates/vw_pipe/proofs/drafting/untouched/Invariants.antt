-- no hops for each route so far
use Rattle.std.proofs.Common.{◌≡◌, [], length}
use Rattle.std.specs.List.{All}
use Rattle.vw_pipe.proofs.drafting.untouched.Given as goal

abbrev pub invariant-loop : goal.invariant-loop
invariant-loop l = record { long : length l.hops.items ≡ l.counter; none : All (λ sent. sent ≡ []) l.hops.items }
