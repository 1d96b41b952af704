use Rattle.std.proofs.Common.{◌∙◌, ◌++◌, ◌+◌, List, Some, None, drop, map, get_or, sym, ap, append-nil}
use Rattle.vw_design.specs.Preorder.{Site, cells}
use Rattle.vw_drivers.specs.Firsts.{number_named}
use Rattle.vw_drivers.specs.Tables.{root_firsts}
use Rattle.vw_net_faults.specs.Steps.Ports.{item_ports}
use Rattle.vw_net_faults.proofs.CellSearches.{IsHere, no_cell, here, past}
use Rattle.vw_net_faults.proofs.PortNumbers.{somes, of_cells, more_ports, ports_are}
use Rattle.vw_net_faults.proofs.nets.Nets.control_ports.Goals as goal
use Rattle.vw_net_faults.proofs.nets.Nets.control_ports.Goals.{in-Some+in_ok-push, in_default}

pub loop-cell-preserved : goal.loop-cell-preserved
loop-cell-preserved c =
    let design = c.args.self.now.design.now in
    let root = root_firsts c.args.self.now.tables.now in
    let i = c.loop-cell.cell-index in
    let ports = c.loop-cell.ports.items in
    let is : IsHere design i (get_or c.args.self.now.cells.now i no_cell) = here c.args.self.now i c.loop-cell-test.true in
    let rest = of_cells design (drop (i + 1) (cells design)) in
    let far = ap (λ (list : List Site). somes ports ++ map (number_named root) (of_cells design list)) (sym is.cut) ∙ c.loop-cell.invariant in
    elim c.match-control_port.branch [
      | in-Some+in_ok-push w ↦
          more_ports root ports c.match-control_port.ports.items (Some w.in-Some.port) (item_ports design is.site.path is.site.item) rest (ap (λ v. v.items) w.ports-is ∙ w.in_ok-push.ensures.items)
          (w.in-Some.ensures is.site.path is.site.item is.listed is.item_is) ∙ far
      | in_default w ↦
          more_ports root ports c.match-control_port.ports.items None (item_ports design is.site.path is.site.item) rest (ap (λ v. v.items) w.ports-is ∙ sym (append-nil ports))
          (w.in_default.ensures is.site.path is.site.item is.listed is.item_is) ∙ far
    ]

pub returns : goal.returns
returns c =
    let design = c.args.self.now.design.now in
    let root = root_firsts c.args.self.now.tables.now in
    let ports = c.loop-cell.ports.items in
    ap (map (number_named root)) (ports_are design) ∙ sym c.loop-cell.invariant
    ∙ ap (λ (list : List Site). somes ports ++ map (number_named root) (of_cells design list)) (past c.args.self.now c.loop-cell.cell-index c.loop-cell-test.false)
    ∙ append-nil (somes ports)
