use Rattle.std.proofs.Common.{◌+◌, subst, arith}
use Rattle.vw_plan.specs.declared.board.Board.{Board}
use Rattle.vw_place.specs.Steps.Tries.{HasTried, IsBefore, IsOneAndLater}
use Rattle.vw_place.proofs.Exchanges.{before_cases, tried_fewer, tried_further}
use Rattle.vw_place.proofs.exchange.Exchange.try_each.Goals as goal

pub loop-one-preserved : goal.loop-one-preserved
loop-one-preserved c =
    let one = c.loop-one.one in
    let old = c.loop-one.self in
    let end = c.args.self.now.nodes.board.chips + 1 in
    let later = subst (λ (board : Board). HasTried (IsOneAndLater one (board.chips + 1)) old c.try_later.new.self) c.loop-one.invariant.board c.try_later.ensures in
    tried_further (IsBefore one end) (IsOneAndLater one end) (IsBefore (one + 1) end) c.args.self.now old c.try_later.new.self c.loop-one.invariant later (before_cases one end)

pub returns : goal.returns
returns c =
    let end = c.args.self.now.nodes.board.chips + 1 in
    tried_fewer (IsBefore c.loop-one.one end) (IsBefore end end) c.args.self.now c.loop-one.self (λ first second is. (is.0, omega (arith, is.1, c.len-one-end.ensures), is.2, is.3)) c.loop-one.invariant
