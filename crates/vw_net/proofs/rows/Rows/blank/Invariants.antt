use Rattle.std.proofs.Common.{◌≡◌, replicate, false}
use Rattle.vw_net.proofs.rows.Rows.blank.Given as goal

abbrev pub invariant-loop : goal.invariant-loop
invariant-loop l = l.rows ≡ replicate l.counter (replicate l.fn.width false)
