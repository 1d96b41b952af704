-- the instances from here on have the drivers of their outputs
use Rattle.std.proofs.Common.{◌≡◌, ◌≤◌, ℕ, length}
use Rattle.vw_drivers.specs.Drivers.{HasOutputs}
use Rattle.vw_drivers.specs.Steps.FoundDrivers.{OfTables}
use Rattle.vw_drivers.proofs.outputs.outputs_by.Given as goal

abbrev pub invariant-loop-instance : goal.invariant-loop-instance
invariant-loop-instance l = record {
  long : length l.rows.items ≡ length l.tables.instances;
  right : OfTables l.tables (λ design. (other : ℕ) → l.instance ≤ other → HasOutputs design l.tables l.rows.items other);
}
