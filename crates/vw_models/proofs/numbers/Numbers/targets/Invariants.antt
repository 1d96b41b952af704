-- the numbers so far, and those of the rest
use Rattle.std.proofs.Common.{◌≡◌, ◌++◌, drop, map}
use Rattle.vw_design.specs.Paths.{placings}
use Rattle.vw_models.specs.Steps.Names.{model_number_in}
use Rattle.vw_models.proofs.numbers.Numbers.targets.Given as goal

abbrev pub invariant-loop-item : goal.invariant-loop-item
invariant-loop-item l =
    l.targets.items ++ map (λ placing. model_number_in l.self.names placing.model) (placings (drop l.item-index l.items))
    ≡ map (λ placing. model_number_in l.self.names placing.model) (placings l.items)
