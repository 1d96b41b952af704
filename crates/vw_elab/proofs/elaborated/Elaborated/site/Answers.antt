use Rattle.std.proofs.Common.{◌≡◌, List, Some, length, slice_get, get_or, sym, ap, subst, arith}
use Rattle.vw_design.specs.declared.design.Design.{Design}
use Rattle.vw_design.specs.Limits.{cell_count}
use Rattle.vw_design.specs.Preorder.{Site, instances, cells}
use Rattle.vw_design.proofs.PairedLists.{AllZip-length}
use Rattle.vw_instances.specs.declared.tables.CellSite.{CellSite}
use Rattle.vw_instances.specs.Tables.{IsCellSite}
use Rattle.vw_elab.proofs.ReadTables.{site_read}
use Rattle.vw_elab.proofs.elaborated.Elaborated.site.Goals as goal

-- there are as many entries as cells
pub bounds-as_slice-cell : goal.bounds-as_slice-cell
bounds-as_slice-cell c =
    let design = c.self.inside.design in
    let long = AllZip-length (IsCellSite (instances design)) (cells design) c.self.inside.parts.cells c.self.invariant.parts.cells in
    omega (arith, c.requires, long, ap cell_count c.self.view_is, ap (λ (list : List CellSite). length list) c.as_slice.ensures)

-- the entry in the table
pub returns : goal.returns
returns c =
    let cell = c.args.cell in
    let none : CellSite = record { instance = 0; item = 0 } in
    let read = λ (table : List CellSite) (design : Design). (site : Site) → slice_get (cells design) cell ≡ Some site → IsCellSite (instances design) site (get_or table cell none) in
    subst (λ (table : List CellSite). read table c.args.self.now) (sym c.as_slice.ensures)
    (subst (read c.self.inside.parts.cells) c.self.view_is (site_read c.self.inside.design c.self.inside.parts.cells c.self.invariant.parts.cells cell none))
