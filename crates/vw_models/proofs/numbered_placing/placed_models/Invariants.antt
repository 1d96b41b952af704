-- the models of the items of the models so far were added
use Rattle.std.proofs.Common.{[], drop, filter, filter_map, flat_map}
use Rattle.vw_design.specs.ModelFaults.{is_reached}
use Rattle.vw_models.specs.Steps.PlacedModels.{placed_by}
use Rattle.vw_models.proofs.AddedPlacings.{IsAdding}
use Rattle.vw_models.proofs.numbered_placing.placed_models.Given as goal

abbrev pub invariant-loop-number : goal.invariant-loop-number
invariant-loop-number l = IsAdding l.targets.design.now []
    (flat_map (λ model. filter_map (placed_by l.targets.design.now) model.items) (filter (λ model. is_reached l.targets.design.now model.name) (drop l.number l.targets.design.now.models)))
    (flat_map (λ model. filter_map (placed_by l.targets.design.now) model.items) (filter (λ model. is_reached l.targets.design.now model.name) l.targets.design.now.models))
    l.placed.items
