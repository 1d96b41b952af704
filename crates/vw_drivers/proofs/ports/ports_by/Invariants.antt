-- the instances so far have the drivers of their ports
use Rattle.std.proofs.Common.{◌≡◌, ◌<◌, ℕ, length}
use Rattle.vw_drivers.specs.Drivers.{HasPorts}
use Rattle.vw_drivers.specs.Steps.FoundDrivers.{OfTables}
use Rattle.vw_drivers.proofs.ports.ports_by.Given as goal

abbrev pub invariant-loop-entry : goal.invariant-loop-entry
invariant-loop-entry l = record {
  long : length l.rows.items ≡ l.entry-index;
  right : OfTables l.tables (λ design. (other : ℕ) → other < l.entry-index → HasPorts design l.tables l.rows.items other);
}
