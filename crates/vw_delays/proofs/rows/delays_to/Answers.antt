use Rattle.std.proofs.Common.{◌≡◌, ◌+◌, ◌*◌, ℕ, subst, arith}
use Rattle.vw_delays.specs.Steps.Rows.{DelaysSoFar}
use Rattle.vw_delays.proofs.DelayRows.{last_row}
use Rattle.vw_delays.proofs.rows.delays_to.Goals as goal

-- at the last limit the delays are the least
pub returns : goal.returns
returns c =
    let board = c.args.board.now in
    let last : c.loop-limit.limit ≡ 16 * board.chips + 1 = omega (arith, c.chips-2.ensures, c.loop-limit.auto.limit-end, c.loop-limit-test.false) in
    last_row board c.args.to c.loop-limit.row.items (subst (λ (limit : ℕ). DelaysSoFar board.links limit c.args.to (board.chips + 1) c.loop-limit.row.items) last c.loop-limit.invariant)
