-- each so far has
use Rattle.std.proofs.Common.{◌≡◌, length}
use Rattle.std.specs.List.{AllWithin}
use Rattle.vw_net.proofs.checked.are_even.Given as goal

abbrev pub invariant-loop-row : goal.invariant-loop-row
invariant-loop-row l = AllWithin (λ row. length row.marks ≡ l.inputs) l.rows 0 l.row-index
