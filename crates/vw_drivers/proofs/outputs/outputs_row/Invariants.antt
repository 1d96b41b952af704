-- the ways so far were followed
use Rattle.std.proofs.Common.{◌≡◌, ◌++◌, drop, map}
use Rattle.vw_drivers.specs.Steps.FoundDrivers.{output_led}
use Rattle.vw_drivers.proofs.outputs.outputs_row.Given as goal

abbrev pub invariant-loop-way : goal.invariant-loop-way
invariant-loop-way l =
    l.row.items ++ map (output_led l.tables l.outputs l.instance) (drop l.way-index l.ways) ≡ map (output_led l.tables l.outputs l.instance) l.ways
