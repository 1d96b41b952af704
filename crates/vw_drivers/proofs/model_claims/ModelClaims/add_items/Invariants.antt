-- the items so far were added, and these models are placed by those that are left
use Rattle.std.proofs.Common.{◌≡◌, ◌≤◌, drop}
use Rattle.vw_design.specs.Paths.{placings}
use Rattle.vw_drivers.specs.Steps.GatheredClaims.{with_item_claims}
use Rattle.vw_design.specs.ModelNumbers.{AreModelNumbers}
use Rattle.vw_drivers.proofs.model_claims.ModelClaims.add_items.Given as goal

abbrev pub invariant-loop-index : goal.invariant-loop-index
invariant-loop-index l = record {
  added : with_item_claims l.design l.index l.before (drop l.index l.items) l.self ≡ with_item_claims l.design 0 0 l.items l.fn.self;
  placed : AreModelNumbers l.design (placings (drop l.index l.items)) (drop l.before l.placed);
  few : l.before ≤ l.index;
}
