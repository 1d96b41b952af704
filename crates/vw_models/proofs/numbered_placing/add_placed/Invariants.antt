-- the models of the items so far were added, and the places go on in step
use Rattle.std.proofs.Common.{drop, filter_map}
use Rattle.std.specs.List.{AllZip}
use Rattle.vw_design.specs.Paths.{placings}
use Rattle.vw_design.specs.ModelNumbers.{IsNumberOfModel}
use Rattle.vw_models.specs.Steps.PlacedModels.{placed_by}
use Rattle.vw_models.proofs.AddedPlacings.{IsAdding}
use Rattle.vw_models.proofs.numbered_placing.add_placed.Given as goal

abbrev pub invariant-loop-item : goal.invariant-loop-item
invariant-loop-item l = record {
  left : AllZip (λ placing number. IsNumberOfModel l.design placing.model number) (placings (drop l.item-index l.items)) (drop l.place l.targets);
  adding : IsAdding l.design l.fn.placed.items (filter_map (placed_by l.design) (drop l.item-index l.items)) (filter_map (placed_by l.design) l.items) l.placed.items;
}
