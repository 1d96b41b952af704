-- the faults of the nets so far
use Rattle.std.proofs.Common.{◌≡◌}
use Rattle.vw_net.specs.Gathered.{gather}
use Rattle.vw_fault.specs.Stuck.{net_faults}
use Rattle.vw_fault.proofs.passes.all_faults.Given as goal

abbrev pub invariant-loop-net : goal.invariant-loop-net
invariant-loop-net l = l.faults.items ≡ gather net_faults l.net
