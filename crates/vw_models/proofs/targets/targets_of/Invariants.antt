-- the targets of the models so far
use Rattle.std.proofs.Common.{◌≡◌, map, take}
use Rattle.vw_design.specs.Paths.{placings}
use Rattle.vw_models.specs.Steps.Names.{model_number_in}
use Rattle.vw_models.proofs.targets.targets_of.Given as goal

abbrev pub invariant-loop-model : goal.invariant-loop-model
invariant-loop-model l =
    l.targets.items ≡ map (λ model. map (λ placing. model_number_in l.numbers.names placing.model) (placings model.items)) (take l.model-index l.model-items)
