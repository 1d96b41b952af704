use Rattle.std.proofs.Common.{ℕ, ◌+◌, Some, ◌∙◌, ap, ap₂, sym, slice_get, length, ◌-◌, take}
use Rattle.vw_design.specs.Counts.{placed_one, cell_one, items_weight, model_weight}
use Rattle.vw_design.specs.Paths.{model_at, items_of}
use Rattle.vw_design.specs.Preorder.{instances}
use Rattle.vw_instances.proofs.EntryNumbers.{stands_behind, stands_somewhere}
use Rattle.vw_instances.proofs.laws.entries_give_numbers.Goals as goal

-- the sites of the instance stand behind the sites before it
pub returns-clause-cells : goal.returns-clause-cells
returns-clause-cells c = λ design table small are number path entry listed at place item is cell.
    let stands = stands_behind design table small are number path listed entry at in
    let weighs = items_weight cell_one (model_weight design cell_one (64 + length design.models - length path)) (take place (items_of (model_at design path))) in
    c.numbers_are_counts.ensures.cells design stands.before stands.after (64 + length design.models - length path) path stands.split place item is cell
    ∙ ap (λ (n : ℕ). Some (n + weighs)) (sym stands.cells_before)

pub returns-clause-instances : goal.returns-clause-instances
returns-clause-instances c = λ design table small are number path listed place line name binds is.
    let stands = (stands_somewhere design table small are number path listed).1 in
    let weighs = items_weight placed_one (model_weight design placed_one (64 + length design.models - length path)) (take place (items_of (model_at design path))) in
    ap (λ (n : ℕ). slice_get (instances design) (1 + (n + weighs))) stands.number_is
    ∙ c.numbers_are_counts.ensures.instances design stands.before stands.after (64 + length design.models - length path) path stands.split place line name binds is

pub returns-clause-sites : goal.returns-clause-sites
returns-clause-sites c = λ design table small are number path entry listed at place item is.
    let depth = 64 + length design.models - length path in
    let stands = stands_behind design table small are number path listed entry at in
    let items = take place (items_of (model_at design path)) in
    let weighs = items_weight cell_one (model_weight design cell_one depth) items + items_weight placed_one (model_weight design placed_one depth) items in
    c.numbers_are_counts.ensures.sites design stands.before stands.after depth path stands.split place item is
    ∙ ap₂ (λ (n k : ℕ). Some ((n + k) + weighs)) (sym stands.cells_before) (sym stands.number_is)
