-- the places so far, and those of the instance that was reached
use Rattle.std.proofs.Common.{◌≡◌, ◌++◌, Some, slice_get, option_map}
use Rattle.vw_design.specs.Paths.{Path}
use Rattle.vw_design.specs.Preorder.{instances}
use Rattle.vw_net_faults.proofs.nets.Nets.places_of.Given as goal

abbrev pub invariant-loop-at : goal.invariant-loop-at
invariant-loop-at l = (path : Path) → slice_get (instances l.self.design.now) l.instance ≡ Some path → option_map (λ rest. l.places.items ++ rest) (slice_get (instances l.self.design.now) l.at) ≡ Some path

abbrev pub decreases-loop-at : goal.decreases-loop-at
decreases-loop-at l = l.at
