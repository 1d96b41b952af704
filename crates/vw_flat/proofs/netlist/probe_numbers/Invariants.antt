-- the numbers so far
use Rattle.std.proofs.Common.{take}
use Rattle.std.specs.List.{AllZip}
use Rattle.vw_flat.specs.Steps.Searches.{HasNumberOf}
use Rattle.vw_flat.proofs.netlist.probe_numbers.Given as goal

abbrev pub invariant-loop-probe : goal.invariant-loop-probe
invariant-loop-probe l = AllZip (HasNumberOf l.elaborated) (take l.probe-index l.probes) l.numbers.items
