-- nothing is found yet
use Rattle.std.proofs.Common.{◌≡◌, not, drop, find, filter_map}
use Rattle.vw_design.specs.NetFaults.{edge_at, same_edge}
use Rattle.vw_design.specs.Preorder.{cells}
use Rattle.vw_net_faults.specs.Steps.Edges.{first_other}
use Rattle.vw_net_faults.proofs.nets.Nets.first_typed.Given as goal

abbrev pub invariant-loop-cell : goal.invariant-loop-cell
invariant-loop-cell l =
    find (λ latch. not (same_edge l.edge latch.edge)) (filter_map (λ site. edge_at site.path site.item) (drop l.cell-index (cells l.self.design.now))) ≡ first_other l.self.design.now l.edge
