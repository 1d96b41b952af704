-- each so far has this width
use Rattle.std.proofs.Common.{◌≡◌, length}
use Rattle.std.specs.List.{AllWithin}
use Rattle.vw_samples.proofs.jobs.are_wide.Given as goal

abbrev pub invariant-loop-place : goal.invariant-loop-place
invariant-loop-place l = AllWithin (λ row. length row ≡ l.width) l.rows 0 l.place
