-- nothing is found yet
use Rattle.std.proofs.Common.{◌≡◌, drop}
use Rattle.vw_design.specs.Drivers.{driver}
use Rattle.vw_design.specs.Preorder.{cells}
use Rattle.vw_net_faults.specs.Steps.Wanted.{wants, wanted_names, wanted_read}
use Rattle.vw_net_faults.proofs.CellSearches.{of_cells}
use Rattle.vw_net_faults.proofs.search.Search.wanted_read.Given as goal

abbrev pub invariant-loop-cell : goal.invariant-loop-cell
invariant-loop-cell l =
    of_cells l.self.nets.now.design.now (λ net. wants l.self.nets.now.design.now l.self.wanted.now (driver l.self.nets.now.design.now net.path net.name)) (λ site. wanted_names l.self.wanted.now site.item) (drop l.cell-index (cells l.self.nets.now.design.now))
    ≡ wanted_read l.self.nets.now.design.now l.self.wanted.now
