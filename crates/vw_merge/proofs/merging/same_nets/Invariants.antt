-- the nets so far have the values of those before this place
use Rattle.std.proofs.Common.{◌≡◌, ℕ, Bool, map, take}
use Rattle.vw_merge.specs.Merging.{SameThere}
use Rattle.vw_merge.proofs.merging.same_nets.Given as goal

abbrev pub invariant-loop-net : goal.invariant-loop-net
invariant-loop-net l = (value other : ℕ → Bool) → SameThere l.to value other → map value l.found.items ≡ map other (take l.net-index l.nets)
