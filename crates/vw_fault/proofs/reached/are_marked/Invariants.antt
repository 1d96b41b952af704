-- each so far has a mark
use Rattle.std.proofs.Common.{◌≡◌, true}
use Rattle.std.specs.List.{AllWithin}
use Rattle.vw_fault.specs.Steps.Reaching.{is_marked}
use Rattle.vw_fault.proofs.reached.are_marked.Given as goal

abbrev pub invariant-loop-net : goal.invariant-loop-net
invariant-loop-net l = AllWithin (λ net. is_marked l.marks net ≡ true) l.nets 0 l.net-index
