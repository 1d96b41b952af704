use Rattle.std.proofs.Common.{◌≡◌, ℕ, List, Option, Some, slice_get, refl, sym, ap, ◌∙◌}
use Rattle.vw_instances.specs.declared.tables.CellSite.{CellSite}
use Rattle.vw_instances.specs.declared.tables.ListedInstance.{ListedInstance}
use Rattle.vw_drivers.specs.declared.model_names.ModelNames.{ModelNames}
use Rattle.vw_drivers.specs.declared.tables.Tables.{Tables}
use Rattle.vw_net_faults.specs.Steps.Items.{numbers_by}
use Rattle.vw_net_faults.proofs.CellItems.{listed_at}
use Rattle.vw_net_faults.proofs.nets.Nets.numbers_by.Goals as goal

-- look-up by look-up
numbers_found : (tables : Tables) (cell : CellSite) (entry : ListedInstance) (names : ModelNames) (numbers : List (Option ℕ))
    → slice_get tables.instances cell.instance ≡ Some entry
    → slice_get tables.names entry.model ≡ Some names → slice_get names.reads cell.item ≡ Some numbers → numbers_by tables cell ≡ Some numbers
numbers_found tables cell entry names numbers first second third = rw (first, second, third) refl

pub returns : goal.returns
returns c =
    let entry = c.in_ok-entry.ensures.lookup in
    let names = c.in_ok-names.ensures.lookup in
    let numbers = c.in_ok-numbers.ensures.lookup in
    ap (λ (list : List (Option ℕ)). Some list) c.as_slice.ensures
    ∙ sym (numbers_found c.args.self.now.tables.now c.args.cell c.in_ok-entry.entry.now c.in_ok-names.names.now c.in_ok-numbers.numbers.now
    (listed_at c.instances.ensures entry.3.0 entry.1) (listed_at c.names.ensures names.3.0 names.1) (listed_at c.reads.ensures numbers.3.0 numbers.1))
