use Rattle.std.proofs.Common.{◌≡◌, ◌∷◌, [], ◌∙◌, ℕ, Option, map, sym, ap}
use Rattle.std.specs.Prelude.{option_to_list}
use Rattle.vw_design.specs.Drivers.{driver}
use Rattle.vw_design.specs.NetReads.{controls_of}
use Rattle.vw_drivers.specs.Firsts.{number_named}
use Rattle.vw_drivers.specs.Tables.{root_firsts}
use Rattle.vw_net_faults.proofs.CellItems.{item_here, numbers_here}
use Rattle.vw_net_faults.proofs.PortNumbers.{somes, control_read, ports_here, source_port}
use Rattle.vw_net_faults.proofs.nets.Nets.control_port.Goals as goal

pub returns-in-Some : goal.returns-in-Some
returns-in-Some c = λ path item listed at.
    let nets = c.args.self.now in
    let design = nets.design.now in
    let cell = c.args.cell in
    let root = root_firsts nets.tables.now in
    let numbers = c.in_ok-numbers.numbers.now in
    let control = c.in-Some.field-0.now in
    let same = item_here nets cell path item listed at c.in_ok-item.item.now c.in_ok-item.ensures in
    let is : control ∷ [] ≡ controls_of item = c.in-Some.ensures ∙ ap controls_of same in
    let number = c.number_in_row.ensures ∙ numbers_here nets cell path item listed at numbers c.in_ok-numbers.ensures 1 control (control_read item control is) in
    ap (map (number_named root)) (ports_here design path item control is)
    ∙ source_port root design c.source.result (driver design path control) (c.source.ensures.is path control listed number) (c.source.ensures.none path control listed number)
    ∙ ap (λ (p : Option ℕ). somes (option_to_list p)) (sym c.port_number.ensures)
