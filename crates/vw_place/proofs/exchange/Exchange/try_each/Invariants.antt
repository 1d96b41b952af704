-- the exchanges so far were tried
use Rattle.std.proofs.Common.{◌+◌}
use Rattle.vw_place.specs.Steps.Tries.{HasTried, IsBefore}
use Rattle.vw_place.proofs.exchange.Exchange.try_each.Given as goal

abbrev pub invariant-loop-one : goal.invariant-loop-one
invariant-loop-one l = HasTried (IsBefore l.one (l.initial.self.nodes.board.chips + 1)) l.initial.self l.self
