use Rattle.std.proofs.Common.{◌≡◌, ◌+◌, ℕ, List, Some, slice_get, refl, sym, ap, ◌∙◌}
use Rattle.vw_instances.specs.declared.sizes.Before.{Before}
use Rattle.vw_instances.specs.declared.tables.ListedInstance.{ListedInstance}
use Rattle.vw_drivers.specs.declared.tables.Tables.{Tables}
use Rattle.vw_net_faults.specs.Steps.SecondClaims.{position_by}
use Rattle.vw_net_faults.proofs.CellItems.{listed_at}
use Rattle.vw_net_faults.proofs.nets.Nets.position.Goals as goal

-- look-up by look-up
position_found : (tables : Tables) (instance item : ℕ) (entry : ListedInstance) (list : List Before) (before : Before)
    → slice_get tables.instances instance ≡ Some entry
    → slice_get tables.before entry.model ≡ Some list → slice_get list item ≡ Some before
    → position_by tables instance item ≡ Some (entry.cells + instance + (before.cells + before.instances))
position_found tables instance item entry list before first second third = rw (first, second, third) refl

pub returns : goal.returns
returns c =
    let entry = c.in_ok-entry.ensures.lookup in
    let list = c.in_ok-before.ensures.lookup in
    let before = c.in_ok-before-2.ensures.lookup in
    ap (λ (place : ℕ). Some place) c.place_behind-place.ensures
    ∙ sym (position_found c.args.self.now.tables.now c.args.instance c.args.item c.in_ok-entry.entry.now c.in_ok-before.before.now c.in_ok-before-2.before.now
    (listed_at c.instances.ensures entry.3.0 entry.1) (listed_at c.before-2.ensures list.3.0 list.1) (listed_at c.as_slice.ensures before.3.0 before.1))
