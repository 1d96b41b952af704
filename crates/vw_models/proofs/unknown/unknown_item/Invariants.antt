-- nothing is found yet, and the places go on in step
use Rattle.std.proofs.Common.{◌≡◌, drop}
use Rattle.std.specs.List.{AllZip}
use Rattle.vw_net.specs.FirstFound.{first_found}
use Rattle.vw_design.specs.Paths.{placings}
use Rattle.vw_design.specs.ModelNumbers.{IsNumberOfModel}
use Rattle.vw_models.specs.Steps.Unknown.{unknown_of}
use Rattle.vw_models.proofs.unknown.unknown_item.Given as goal

abbrev pub invariant-loop-item : goal.invariant-loop-item
invariant-loop-item l = record {
  left : AllZip (λ placing number. IsNumberOfModel l.design placing.model number) (placings (drop l.item-index l.items)) (drop l.place l.targets);
  found : first_found (unknown_of l.design) (drop l.item-index l.items) ≡ first_found (unknown_of l.design) l.items;
}
