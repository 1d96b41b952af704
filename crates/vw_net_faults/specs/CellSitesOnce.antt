-- That a table has the gates and latches of a design has one proof at most, so that a struct may carry it.
use Rattle.std.specs.Prelude.{List, [], ◌∷◌}
use Rattle.std.specs.List.{AllZip}
use Rattle.std.specs.Coded.{×_prop, Unit-prop}
use Rattle.std.proofs.Props.{props}
use Rattle.vw_design.specs.declared.design.Design.{Design}
use Rattle.vw_design.specs.Preorder.{Site, instances, cells}
use Rattle.vw_instances.specs.declared.tables.CellSite.{CellSite}
use Rattle.vw_instances.specs.Tables.{IsCellSite, AreCellSites}

pub AreCellSites-prop : (design : Design) (table : List CellSite) → IsProp (AreCellSites design table)
AreCellSites-prop design table = by (cells design) table where
  by : (list : List Site) (table : List CellSite) → IsProp (AllZip (IsCellSite (instances design)) list table)
  by [] [] = Unit-prop
  by [] (cell ∷ table) = λ no _. absurd no
  by (site ∷ list) [] = λ no _. absurd no
  by (site ∷ list) (cell ∷ table) = ×_prop (Prim.hlevel props) (by list table)
