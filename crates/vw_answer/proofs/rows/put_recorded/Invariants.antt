use Rattle.std.proofs.Common.{◌≡◌, ◌<◌, ◌≤◌, ℕ, [], length, get_or}
use Rattle.vw_answer.specs.Latches.{with_latches}
use Rattle.vw_answer.proofs.rows.put_recorded.Given as goal

abbrev pub invariant-loop-clock : goal.invariant-loop-clock
invariant-loop-clock l =
    (length l.latches ≡ length l.fn.latches)
    × ((clock : ℕ) → clock < l.clock → get_or l.latches clock [] ≡ with_latches l.fn.node.code.now.numbers.items (get_or l.fn.node.rows clock []) (get_or l.fn.latches clock []))
    × ((clock : ℕ) → l.clock ≤ clock → get_or l.latches clock [] ≡ get_or l.fn.latches clock [])
