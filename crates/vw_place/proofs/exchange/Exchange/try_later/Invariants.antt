-- the exchanges so far were tried
use Rattle.vw_place.specs.Steps.Tries.{HasTried, IsOneAndLater}
use Rattle.vw_place.proofs.exchange.Exchange.try_later.Given as goal

abbrev pub invariant-loop-other : goal.invariant-loop-other
invariant-loop-other l = HasTried (IsOneAndLater l.one l.other) l.initial.self l.self
