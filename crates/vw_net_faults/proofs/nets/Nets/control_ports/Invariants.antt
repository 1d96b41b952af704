-- the ports so far, and those of the cells that are left
use Rattle.std.proofs.Common.{◌≡◌, ◌++◌, ℕ, Some, drop, map, flat_map}
use Rattle.vw_design.specs.Preorder.{cells}
use Rattle.vw_drivers.specs.Firsts.{number_named}
use Rattle.vw_drivers.specs.Tables.{root_firsts}
use Rattle.vw_net_faults.specs.Steps.Ports.{item_ports}
use Rattle.vw_net_faults.proofs.nets.Nets.control_ports.Given as goal

abbrev pub invariant-loop-cell : goal.invariant-loop-cell
invariant-loop-cell l =
    map (λ (number : ℕ). Some number) l.ports.items ++ map (number_named (root_firsts l.self.tables.now)) (flat_map (λ site. item_ports l.self.design.now site.path site.item) (drop l.cell-index (cells l.self.design.now)))
    ≡ map (number_named (root_firsts l.self.tables.now)) (flat_map (λ site. item_ports l.self.design.now site.path site.item) (cells l.self.design.now))
