-- each so far is one
use Rattle.std.proofs.Common.{◌<◌}
use Rattle.std.specs.List.{AllWithin}
use Rattle.vw_net.proofs.checked.are_nets.Given as goal

abbrev pub invariant-loop-number : goal.invariant-loop-number
invariant-loop-number l = AllWithin (λ net. net < l.nets) l.numbers 0 l.number-index
