use Rattle.std.proofs.Common.{◌≡◌, ◌<◌, ◌^◌, ℕ, Bool, true, false, not, List, length, if◌then◌else◌, ap, sym, subst, ◌∙◌, All}
use Rattle.std.specs.List.{list_any}
use Rattle.std.proofs.lemmas.List.{drop_all}
use Rattle.std.proofs.lemmas.List.Folds.{list_any_at}
use Rattle.vw_net.specs.declared.masks.Masks.{Masks}
use Rattle.vw_net.specs.Table.{Table}
use Rattle.vw_net.specs.Cover.{cover_value}
use Rattle.vw_net.specs.TruthTable.{place_of}
use Rattle.vw_net.specs.Steps.Masks.{is_matched, rows_of}
use Rattle.vw_net.proofs.RowMasks.{value_by_masks}
use Rattle.vw_net.proofs.cover.Cover.value_by_rows.Goals.{After-as_slice-masks-items}
use Rattle.vw_net.proofs.cover.Cover.value_by_rows.Goals as goal

-- whether some masks match decides
decides : (c : After-as_slice-masks-items) (any : Bool) → list_any (is_matched c.args.place) c.as_slice-masks-items.result.now ≡ any
    → (bits : List Bool) → length bits ≡ c.args.self.now.inputs → place_of bits ≡ c.args.place → (if any then c.self.inside.on else not c.self.inside.on) ≡ cover_value c.args.self.now bits
decides c any is bits size at =
    let table = c.args.self.now in
    let masks : c.as_slice-masks-items.result.now ≡ c.self.inside.masks.items = c.as_slice-masks-items.ensures.value in
    let inputs = ap (λ (one : Table). one.inputs) c.self.view_is in
    let rows : rows_of table.inputs c.self.inside.masks.items ≡ table.rows = ap (λ (n : ℕ). rows_of n c.self.inside.masks.items) (sym inputs) ∙ ap (λ (one : Table). one.rows) c.self.view_is in
    let low : All (λ (m : Masks). m.looked < 2 ^ table.inputs) c.self.inside.masks.items = subst (λ (n : ℕ). All (λ (m : Masks). m.looked < 2 ^ n) c.self.inside.masks.items) inputs c.self.inside.within in
    ap (λ (on : Bool). if any then on else not on) (ap (λ (one : Table). one.on) c.self.view_is)
    ∙ value_by_masks table c.self.inside.masks.items c.args.place any rows low (ap (list_any (is_matched c.args.place)) (sym masks) ∙ is) bits size at

pub returns-then-is_matched : goal.returns-then-is_matched
returns-then-is_matched c =
    let list = c.as_slice-masks-items.result.now in
    decides ((goal.at.returns-then-is_matched c).After-as_slice-masks-items) true
    (list_any_at (is_matched c.args.place) list c.loop-masks.masks-index _ c.loop-masks-test.true (sym c.is_matched.ensures ∙ c.if-is_matched.true))

pub returns : goal.returns
returns c =
    let list = c.as_slice-masks-items.result.now in
    decides ((goal.at.returns c).After-as_slice-masks-items) false
    (sym c.loop-masks.invariant ∙ ap (list_any (is_matched c.args.place)) (drop_all c.loop-masks.masks-index list c.loop-masks-test.false))
