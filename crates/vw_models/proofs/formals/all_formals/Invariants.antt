-- those of the models so far
use Rattle.std.proofs.Common.{take}
use Rattle.std.specs.List.{AllZip}
use Rattle.vw_models.specs.Steps.Formals.{AreFormals}
use Rattle.vw_models.proofs.formals.all_formals.Given as goal

abbrev pub invariant-loop-model : goal.invariant-loop-model
invariant-loop-model l = AllZip AreFormals (take l.model-index l.model-items) l.formals.items
