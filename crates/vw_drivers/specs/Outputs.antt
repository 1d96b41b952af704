-- Sets of the outputs of models.
use Rattle.std.specs.Prelude.{◌≡◌, List}
use Rattle.std.specs.List.{AllZip}
use Rattle.vw_design.specs.declared.design.Design.{Design}
use Rattle.vw_design.specs.Distinct.{has_name}
use Rattle.vw_design.specs.Paths.{Word}

-- for each model, names that are its outputs, in whatever order
abbrev pub AreOutputs : Design → List (List Word) → Type 0
AreOutputs design outputs =
    AllZip (λ model names. (name : Word) → has_name names name ≡ has_name model.outputs name) design.models outputs
