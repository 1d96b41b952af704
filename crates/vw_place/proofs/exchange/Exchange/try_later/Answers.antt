use Rattle.std.proofs.Common.{◌+◌, arith}
use Rattle.vw_place.specs.Steps.Tries.{IsBoth, IsOneAndLater}
use Rattle.vw_place.proofs.Exchanges.{later_cases, tried_fewer, tried_further}
use Rattle.vw_place.proofs.exchange.Exchange.try_later.Goals as goal

pub loop-other-preserved : goal.loop-other-preserved
loop-other-preserved c =
    let one = c.args.one in
    let other = c.loop-other.other in
    tried_further (IsOneAndLater one other) (IsBoth one other) (IsOneAndLater one (other + 1)) c.args.self.now c.loop-other.self c.try_two.new.self c.loop-other.invariant c.try_two.ensures (later_cases one other)

pub returns : goal.returns
returns c =
    tried_fewer (IsOneAndLater c.args.one c.loop-other.other) (IsOneAndLater c.args.one (c.args.self.now.nodes.board.chips + 1)) c.args.self.now c.loop-other.self (λ first second is. (is.0, is.1, omega (arith, is.2, c.len-other-end.ensures))) c.loop-other.invariant
