-- the cells so far, and those of the pins that are left; few enough to be added
use Rattle.std.proofs.Common.{◌≡◌, ◌≤◌, ◌+◌, ◌*◌, ◌^◌, drop}
use Rattle.vw_emit_text.specs.Steps.{outlet_cells}
use Rattle.vw_emit_text.proofs.emission.outlet_cells.Given as goal

abbrev pub invariant-loop-outlet : goal.invariant-loop-outlet
invariant-loop-outlet l = (l.cells + outlet_cells (drop l.outlet-index l.outlets) ≡ outlet_cells l.outlets) × (l.cells ≤ l.outlet-index * 2 ^ 65)
