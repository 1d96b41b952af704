-- the amounts of the items so far, with what stood before each, and the places go on in step
use Rattle.std.proofs.Common.{◌≡◌, ◌≤◌, drop, take, min, length}
use Rattle.std.specs.List.{AllZip}
use Rattle.vw_design.specs.Paths.{placings}
use Rattle.vw_design.specs.ModelNumbers.{IsNumberOfModel}
use Rattle.vw_instances.specs.declared.measure.Measure.TheVariants.{Instances, Cells}
use Rattle.vw_instances.specs.Steps.Counting.{most, amount, count_in}
use Rattle.vw_instances.proofs.Prefixes.{ArePrefixes}
use Rattle.vw_instances.proofs.entries.entries_of.Given as goal

abbrev pub invariant-loop-item : goal.invariant-loop-item
invariant-loop-item l = record {
  within : l.place ≤ length l.targets;
  left : AllZip (λ placing number. IsNumberOfModel l.design placing.model number) (placings (drop l.item-index l.items)) (drop l.place l.targets);
  cells : l.cells ≡ min most (amount Cells (count_in l.design l.tables.cells.items) (take l.item-index l.items));
  instances : l.instances ≡ min most (amount Instances (count_in l.design l.tables.instances.items) (take l.item-index l.items));
  entries : ArePrefixes l.design l.tables l.items l.entries.items l.item-index;
}
