-- the nets so far come before the turn
use Rattle.std.specs.List.{AllWithin}
use Rattle.vw_pipe.specs.Steps.Turns.{ComesBefore}
use Rattle.vw_pipe.proofs.turns.come_before.Given as goal

abbrev pub invariant-loop-net : goal.invariant-loop-net
invariant-loop-net l = AllWithin (ComesBefore l.given.routes.now l.turns.nets.items l.turns.routes.items l.node l.turn) l.nets 0 l.net-index
