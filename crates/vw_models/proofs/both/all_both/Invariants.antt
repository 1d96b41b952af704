-- those of the models so far
use Rattle.std.proofs.Common.{take}
use Rattle.std.specs.List.{AllZip}
use Rattle.vw_models.specs.Steps.Formals.{IsBothWays}
use Rattle.vw_models.proofs.both.all_both.Given as goal

abbrev pub invariant-loop-model : goal.invariant-loop-model
invariant-loop-model l = AllZip IsBothWays (take l.model-index l.model-items) l.outputs.items
