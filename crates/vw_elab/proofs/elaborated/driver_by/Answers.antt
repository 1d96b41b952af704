use Rattle.std.proofs.Common.{◌≡◌, ℕ, List, Option, Some, slice_get, refl, sym, ap, ◌∙◌}
use Rattle.vw_drivers.specs.declared.source.Source.{Source}
use Rattle.vw_drivers.specs.declared.source.Source.TheVariants.{Port}
use Rattle.vw_elab.specs.Numbers.{of_port}
use Rattle.vw_elab.specs.Steps.ByColumns.{driver_by}
use Rattle.vw_elab.proofs.ReadTables.{listed_at}
use Rattle.vw_elab.proofs.elaborated.driver_by.Goals.{In_ok-column-in-Port}
use Rattle.vw_elab.proofs.elaborated.driver_by.Goals as goal

-- a port goes by its column
column_of_port : (ports : List (Option ℕ)) (number : ℕ) (column : Option ℕ) → slice_get ports number ≡ Some column → driver_by ports (Some (Port number)) ≡ Some (of_port column)
column_of_port ports number column at = rw at refl

driver_of_port : (c : In_ok-column-in-Port) → driver_by c.args.columns.now.ports c.args.source ≡ Some (of_port c.in_ok-column-in-Port.field-0.now)
driver_of_port c =
    let ports = c.args.columns.now.ports in
    let column = c.in_ok-column-in-Port.ensures.lookup in
    ap (driver_by ports) (c.in_ok-cell.was ∙ ap (λ (source : Source). Some source) c.in-Port.is)
    ∙ column_of_port ports c.in-Port.number c.in_ok-column-in-Port.field-0.now (listed_at c.as_slice.ensures column.3.0 column.1)

pub returns-in-None : goal.returns-in-None
returns-in-None c = sym (driver_of_port (goal.at.returns-in-None c).In_ok-column-in-Port ∙ ap (λ (column : Option ℕ). Some (of_port column)) c.in-None.is)

pub returns-in-Some : goal.returns-in-Some
returns-in-Some c = sym (driver_of_port (goal.at.returns-in-Some c).In_ok-column-in-Port ∙ ap (λ (column : Option ℕ). Some (of_port column)) c.in-Some.is)
