use Rattle.std.proofs.Common.{◌∙◌, sym, ap, get_or, Some}
use Rattle.vw_design.specs.Drivers.{driver}
use Rattle.vw_design.specs.Paths.{Net}
use Rattle.vw_design.specs.Preorder.{Site}
use Rattle.vw_net_faults.specs.Nets.{printed_net}
use Rattle.vw_net_faults.specs.Steps.Wanted.{wants, wanted_names}
use Rattle.vw_net_faults.proofs.CellSearches.{IsHere, no_cell, of_cells, here, past, nothing_here, found_here}
use Rattle.vw_net_faults.proofs.search.Search.wanted_read.Goals as goal

pub returns-in-Some : goal.returns-in-Some
returns-in-Some c =
    let design = c.args.self.now.nets.now.design.now in
    let wanted = c.args.self.now.wanted.now in
    let i = c.loop-cell.cell-index in
    let cell = get_or c.args.self.now.nets.now.cells.now i no_cell in
    let is : IsHere design i cell = here c.args.self.now.nets.now i c.loop-cell-test.true in
    ap (λ (n : _). Some n) (c.in_ok-net.ensures is.site.path is.listed)
    ∙ ap printed_net (found_here design (λ (net : Net). wants design wanted (driver design net.path net.name)) (λ (site : Site). wanted_names wanted site.item) i cell is c.loop-cell.invariant
    c.in-Some.name.now (c.in-Some.ensures is.site.path is.site.item is.listed is.item_is))

pub loop-cell-preserved : goal.loop-cell-preserved
loop-cell-preserved c =
    let design = c.args.self.now.nets.now.design.now in
    let wanted = c.args.self.now.wanted.now in
    let i = c.loop-cell.cell-index in
    let cell = get_or c.args.self.now.nets.now.cells.now i no_cell in
    let is : IsHere design i cell = here c.args.self.now.nets.now i c.loop-cell-test.true in
    nothing_here design (λ (net : Net). wants design wanted (driver design net.path net.name)) (λ (site : Site). wanted_names wanted site.item) i cell is c.loop-cell.invariant
    (c.in_default.ensures is.site.path is.site.item is.listed is.item_is)

pub returns : goal.returns
returns c =
    let design = c.args.self.now.nets.now.design.now in
    let wanted = c.args.self.now.wanted.now in
    ap printed_net (sym (ap (of_cells design (λ (net : Net). wants design wanted (driver design net.path net.name)) (λ (site : Site). wanted_names wanted site.item))
    (past c.args.self.now.nets.now c.loop-cell.cell-index c.loop-cell-test.false)) ∙ c.loop-cell.invariant)
