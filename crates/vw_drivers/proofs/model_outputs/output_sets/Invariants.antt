-- the outputs of the models so far
use Rattle.std.proofs.Common.{◌≡◌, take}
use Rattle.std.specs.List.{AllZip}
use Rattle.vw_design.specs.Distinct.{has_name}
use Rattle.vw_design.specs.Paths.{Word}
use Rattle.vw_drivers.proofs.model_outputs.output_sets.Given as goal

abbrev pub invariant-loop-model : goal.invariant-loop-model
invariant-loop-model l =
    AllZip (λ model names. (name : Word) → has_name names name ≡ has_name model.outputs name) (take l.model-index l.model-items) l.outputs.items
