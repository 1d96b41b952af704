-- what the numbers so far place is there
use Rattle.std.proofs.Common.{◌≡◌, length}
use Rattle.std.specs.Vec.{vec_len}
use Rattle.vw_models.specs.Steps.Reach.{AreFlagged}
use Rattle.vw_models.proofs.Reaches.{IsReaching}
use Rattle.vw_models.proofs.reach.reach.Given as goal

abbrev pub invariant-loop-at : goal.invariant-loop-at
invariant-loop-at l = record {
  far : IsReaching l.targets l.at l.reached.found.items;
  flags : vec_len l.reached.flags ≡ length l.targets;
  flagged : AreFlagged l.reached.found.items l.reached.flags.items;
}
