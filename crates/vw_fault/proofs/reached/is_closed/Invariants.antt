-- what the marked cells so far read is marked
use Rattle.std.proofs.Common.{◌≡◌, ◌<◌, ◌+◌, ℕ, true, All, slice_get}
use Rattle.vw_net.specs.Order.{read_nets_at}
use Rattle.vw_fault.specs.Steps.Reaching.{is_marked}
use Rattle.vw_fault.proofs.reached.is_closed.Given as goal

abbrev pub invariant-loop-number : goal.invariant-loop-number
invariant-loop-number l =
    (number : ℕ) → number < l.number → is_marked l.marks (l.flat.inputs + number) ≡ true
    → All (λ net. is_marked l.marks net ≡ true) (read_nets_at (slice_get l.flat.cells number))
