-- what is listed so far, and the crossing reads of the cells that are left
use Rattle.std.proofs.Common.{◌≡◌, ◌++◌, drop}
use Rattle.std.specs.List.{zip}
use Rattle.vw_wires.specs.Steps.Crossings.{cell_crossings}
use Rattle.vw_wires.proofs.crossing.reads_across.Given as goal

abbrev pub invariant-loop-number : goal.invariant-loop-number
invariant-loop-number l =
    l.needs.items ++ cell_crossings l.flat l.chip_of (zip (drop l.number l.chip_of) (drop l.number l.flat.cells))
    ≡ cell_crossings l.flat l.chip_of (zip l.chip_of l.flat.cells)
