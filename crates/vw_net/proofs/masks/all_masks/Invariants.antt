-- the masks so far, and then those of what is left of the rows
use Rattle.std.proofs.Common.{◌≡◌, ◌++◌, drop, map}
use Rattle.vw_net.specs.Steps.Masks.{masks_of}
use Rattle.vw_net.proofs.masks.all_masks.Given as goal

abbrev pub invariant-loop-row : goal.invariant-loop-row
invariant-loop-row l = l.masks.items ++ map (λ row. masks_of row.marks) (drop l.row-index l.rows) ≡ map (λ row. masks_of row.marks) l.rows
