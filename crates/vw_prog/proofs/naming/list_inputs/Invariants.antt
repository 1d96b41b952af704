-- the inputs so far
use Rattle.std.proofs.Common.{◌≡◌, ◌-◌, ◌++◌}
use Rattle.std.specs.List.{range_with_len}
use Rattle.vw_prog.proofs.naming.list_inputs.Given as goal

abbrev pub invariant-loop-net : goal.invariant-loop-net
invariant-loop-net l = l.list.items ++ range_with_len l.net (l.inputs - l.net) ≡ l.fn.list.items ++ range_with_len 0 l.inputs
