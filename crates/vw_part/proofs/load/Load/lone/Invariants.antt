-- those so far, and those among the nets that are left
use Rattle.std.proofs.Common.{◌≡◌, ◌≤◌, ◌+◌, ℕ, drop, get_or}
use Rattle.vw_part.specs.Steps.Gains.{lone_among}
use Rattle.vw_part.proofs.load.Load.lone.Given as goal

abbrev pub invariant-loop-net : goal.invariant-loop-net
invariant-loop-net l =
    (l.lone + lone_among (λ (net : ℕ). get_or l.self.held.counts.items net 0) (drop l.net-index l.nets) ≡ lone_among (λ (net : ℕ). get_or l.self.held.counts.items net 0) l.nets)
    × (l.lone ≤ l.net-index)
