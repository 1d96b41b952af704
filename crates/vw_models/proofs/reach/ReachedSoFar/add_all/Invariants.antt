-- what is left to add gives the rest
use Rattle.std.proofs.Common.{◌≡◌, drop}
use Rattle.std.specs.Vec.{vec_len}
use Rattle.vw_models.specs.Steps.Reach.{AreFlagged, with_targets}
use Rattle.vw_models.proofs.reach.ReachedSoFar.add_all.Given as goal

abbrev pub invariant-loop-target : goal.invariant-loop-target
invariant-loop-target l = record {
  found : with_targets l.self.found.items (drop l.target-index l.targets) ≡ with_targets l.fn.self.found.items l.targets;
  flags : vec_len l.self.flags ≡ vec_len l.fn.self.flags;
  flagged : AreFlagged l.self.found.items l.self.flags.items;
}
