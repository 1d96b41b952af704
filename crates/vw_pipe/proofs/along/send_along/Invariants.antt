-- hops over what is left of the way are the rest of hops over the whole way
use Rattle.vw_pipe.proofs.Sending.{IsOnItsWay}
use Rattle.vw_pipe.proofs.along.send_along.Given as goal

abbrev pub invariant-loop-to : goal.invariant-loop-to
invariant-loop-to l =
    IsOnItsWay l.given.board.now l.fn.table.taken l.fn.ready l.fn.first l.further l.table l.hops.items l.from l.microcycle l.to-index
