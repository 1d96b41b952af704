-- nothing is found yet
use Rattle.std.proofs.Common.{◌≡◌, drop}
use Rattle.vw_net.specs.FirstFound.{first_found}
use Rattle.vw_models.specs.Steps.PlacedModels.{at_numbered}
use Rattle.vw_models.specs.Steps.FoundAtPlaced.{unbound_input_at}
use Rattle.vw_models.proofs.unbound.first_unbound.Given as goal

abbrev pub invariant-loop-numbered : goal.invariant-loop-numbered
invariant-loop-numbered l = first_found (at_numbered l.design unbound_input_at) (drop l.numbered-index l.placed) ≡ first_found (at_numbered l.design unbound_input_at) l.placed
