use Rattle.std.proofs.Common.{◌∙◌, None, Option, sym, ap, get_or, subst}
use Rattle.vw_design.specs.NetFaults.{Edged}
use Rattle.vw_net_faults.specs.Steps.Edges.{IsTyped}
use Rattle.vw_net_faults.proofs.CellSearches.{IsHere, no_cell, here, past}
use Rattle.vw_net_faults.proofs.Edged.{other_of, typed_here, no_type_here}
use Rattle.vw_net_faults.proofs.nets.Nets.first_typed.Goals as goal

pub returns-then-is_some : goal.returns-then-is_some
returns-then-is_some c =
    let design = c.args.self.now.design.now in
    let i = c.loop-cell.cell-index in
    let cell = get_or c.args.self.now.cells.now i no_cell in
    let is : IsHere design i cell = here c.args.self.now i c.loop-cell-test.true in
    typed_here design c.args.edge i cell is c.loop-cell.invariant c.typed_at-found.result (c.typed_at-found.ensures is.site.path is.site.item is.listed is.item_is) (sym c.is_some.ensures ∙ c.if-is_some.true)

pub loop-cell-preserved : goal.loop-cell-preserved
loop-cell-preserved c =
    let design = c.args.self.now.design.now in
    let i = c.loop-cell.cell-index in
    let cell = get_or c.args.self.now.cells.now i no_cell in
    let is : IsHere design i cell = here c.args.self.now i c.loop-cell-test.true in
    no_type_here design c.args.edge i cell is c.loop-cell.invariant c.typed_at-found.result (c.typed_at-found.ensures is.site.path is.site.item is.listed is.item_is) (sym c.is_some.ensures ∙ c.if-is_some.false)

pub returns : goal.returns
returns c =
    let design = c.args.self.now.design.now in
    let edge = c.args.edge in
    subst (λ (latch : Option Edged). IsTyped design latch None)
    (sym (ap (other_of edge) (past c.args.self.now c.loop-cell.cell-index c.loop-cell-test.false)) ∙ c.loop-cell.invariant) tt
