-- what the row becomes with the ways that are left
use Rattle.std.proofs.Common.{◌≡◌, drop}
use Rattle.vw_drivers.specs.Steps.FoundDrivers.{with_ways, ports_made}
use Rattle.vw_drivers.proofs.ports.ports_row.Given as goal

abbrev pub invariant-loop-way : goal.invariant-loop-way
invariant-loop-way l =
    with_ways l.tables l.outputs l.ports l.entry.parent (drop l.way-index l.way-items) l.row.items ≡ ports_made l.tables l.outputs l.ports l.fn.entry
