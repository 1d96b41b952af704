-- the nets so far, and those that are left
use Rattle.std.proofs.Common.{◌≡◌, ◌-◌, ◌++◌}
use Rattle.vw_merge.specs.Merging.{input_starts}
use Rattle.vw_merge.proofs.merging.input_nets.Given as goal

abbrev pub invariant-loop-net : goal.invariant-loop-net
invariant-loop-net l = l.to.items ++ input_starts l.net (l.inputs - l.net) ≡ input_starts 0 l.inputs
