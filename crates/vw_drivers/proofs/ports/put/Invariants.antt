-- what the row becomes with the driver
use Rattle.std.proofs.Common.{◌≡◌, length}
use Rattle.vw_drivers.specs.Steps.FoundDrivers.{with_port}
use Rattle.vw_drivers.proofs.ports.put.Given as goal

abbrev pub invariant-loop : goal.invariant-loop
invariant-loop l = record {
  row : with_port l.row.items l.number l.source ≡ with_port l.fn.row.items l.number l.source;
  long : length l.row.items ≡ l.counter;
}
