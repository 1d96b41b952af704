use Rattle.std.proofs.Common.{◌≡◌, ◌≤◌, ◌+◌, length}
use Rattle.vw_plan_tests.proofs.slots.take.Given as goal

abbrev pub invariant-loop-link : goal.invariant-loop-link
invariant-loop-link g l = record { links : length l.table.widths ≡ 2; room : length l.rows ≤ l.table.spare + l.link-index; taken : length l.table.taken ≡ l.link-index }
