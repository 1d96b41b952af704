use Rattle.std.proofs.Common.{◌≡◌, ◌++◌, drop, map}
use Rattle.vw_world.specs.Lanes.{fresh_lane}
use Rattle.vw_world.proofs.lanes.Lanes.make.Given as goal

abbrev pub invariant-loop-link : goal.invariant-loop-link
invariant-loop-link l = l.lanes.items ++ map fresh_lane (drop l.link-index l.links) ≡ map fresh_lane l.links
