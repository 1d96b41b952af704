use Rattle.std.proofs.Common.{◌≡◌, subst}
use Rattle.vw_design.specs.declared.item.Item.{Item}
use Rattle.vw_drivers.specs.Names.{reads_of}
use Rattle.vw_drivers.specs.Tables.{instance_firsts}
use Rattle.vw_net_faults.specs.Steps.Items.{AreNumbersOf}
use Rattle.vw_design.specs.Paths.{lent}
use Rattle.vw_net_faults.specs.Steps.Wanted.{wanted_among, wanted_names}
use Rattle.vw_net_faults.proofs.CellItems.{item_here, numbers_here}
use Rattle.vw_net_faults.proofs.search.Search.wanted_at.Goals as goal

pub returns : goal.returns
returns c = λ path item listed at.
    let nets = c.args.self.now.nets.now in
    let wanted = c.args.self.now.wanted.now in
    let cell = c.args.cell in
    let numbers = c.in_ok-numbers.numbers.now in
    subst (λ (x : Item). AreNumbersOf (instance_firsts nets.tables.now cell.instance) (reads_of x) numbers → lent c.read_found.result ≡ wanted_among nets.design.now wanted path (wanted_names wanted x))
    (item_here nets cell path item listed at c.in_ok-item.item.now c.in_ok-item.ensures)
    (c.read_found.ensures path listed)
    (numbers_here nets cell path item listed at numbers c.in_ok-numbers.ensures)
