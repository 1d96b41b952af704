-- the amount of the items so far, and the places go on in step
use Rattle.std.proofs.Common.{◌≡◌, ◌≤◌, drop, take, min, length}
use Rattle.std.specs.List.{AllZip}
use Rattle.vw_design.specs.Paths.{placings}
use Rattle.vw_design.specs.ModelNumbers.{IsNumberOfModel}
use Rattle.vw_instances.specs.Steps.Counting.{most, amount, count_in}
use Rattle.vw_instances.proofs.amounts.amount_of.Given as goal

abbrev pub invariant-loop-item : goal.invariant-loop-item
invariant-loop-item l = record {
  within : l.place ≤ length l.targets;
  left : AllZip (λ placing number. IsNumberOfModel l.design placing.model number) (placings (drop l.item-index l.items)) (drop l.place l.targets);
  total : l.total ≡ min most (amount l.measure (count_in l.design l.counts) (take l.item-index l.items));
}
