-- nothing is found yet, and the lists go along
use Rattle.std.proofs.Common.{◌≡◌, drop, filter}
use Rattle.vw_net.specs.FirstFound.{first_found}
use Rattle.vw_design.specs.ModelFaults.{is_reached}
use Rattle.vw_models.specs.Steps.Unknown.{unknown_of}
use Rattle.vw_models.proofs.unknown.unknown_model.Given as goal

abbrev pub invariant-loop-number : goal.invariant-loop-number
invariant-loop-number l =
    first_found (λ model. first_found (unknown_of l.targets.design.now) model.items) (filter (λ model. is_reached l.targets.design.now model.name) (drop l.number l.targets.design.now.models))
    ≡ first_found (λ model. first_found (unknown_of l.targets.design.now) model.items) (filter (λ model. is_reached l.targets.design.now model.name) l.targets.design.now.models)
