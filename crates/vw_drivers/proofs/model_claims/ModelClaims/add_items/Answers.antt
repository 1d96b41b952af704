use Rattle.std.proofs.Common.{◌≡◌, ◌+◌, ◌∷◌, List, ℕ, suc, drop, sym, ◌∙◌, ap, ap₂, subst, arith}
use Rattle.std.proofs.lemmas.List.{drop_more}
use Rattle.vw_design.specs.declared.item.Item.{Item}
use Rattle.vw_design.specs.Paths.{placings}
use Rattle.vw_design.specs.Claims.{and_behind}
use Rattle.vw_drivers.specs.Steps.GatheredClaims.{item_made, with_first_claims, with_item_claims, IsModelNumber}
use Rattle.vw_design.specs.ModelNumbers.{AreModelNumbers}
use Rattle.vw_drivers.proofs.Targets.{target_here, placed_more, behind_few}
use Rattle.vw_drivers.proofs.model_claims.ModelClaims.add_items.Goals as goal

pub add_item-requires-clause-target : goal.add_item-requires-clause-target
add_item-requires-clause-target c =
    let design = c.args.design.now in
    let items = c.args.items.now in
    let placed = c.args.placed.now in
    let i = c.loop-index.index in
    let before = c.loop-index.before in
    let item = c.index-items-index.result in
    let cut : drop i items ≡ item ∷ drop (i + 1) items = drop_more items i item c.loop-index-test.true ∙ ap (λ (x : Item). x ∷ drop (i + 1) items) (sym c.index-items-index.is) in
    let left : AreModelNumbers design (placings (item ∷ drop (i + 1) items)) (drop before placed) =
    subst (λ (list : List Item). AreModelNumbers design (placings list) (drop before placed)) cut c.loop-index.invariant.placed in
    subst (IsModelNumber design item) (sym c.target_behind-target.ensures) (target_here design item (drop (i + 1) items) placed before left)

pub loop-index-preserved : goal.loop-index-preserved
loop-index-preserved c =
    let design = c.args.design.now in
    let items = c.args.items.now in
    let placed = c.args.placed.now in
    let i = c.loop-index.index in
    let before = c.loop-index.before in
    let item = c.index-items-index.result in
    let further = drop (i + 1) items in
    let cut : drop i items ≡ item ∷ further = drop_more items i item c.loop-index-test.true ∙ ap (λ (x : Item). x ∷ further) (sym c.index-items-index.is) in
    let left : AreModelNumbers design (placings (item ∷ further)) (drop before placed) =
    subst (λ (list : List Item). AreModelNumbers design (placings list) (drop before placed)) cut c.loop-index.invariant.placed in
    let added : c.add_item.new.self ≡ with_first_claims i (item_made design i before item) c.loop-index.self =
    c.in_ok-add_item.ensures ∙ ap (λ (n : ℕ). with_first_claims n (item_made design n before item) c.loop-index.self) c.in_ok-number.ensures.same in
    let next : i + 1 ≡ suc i = omega arith in
    let whole : with_item_claims design (i + 1) c.behind-before.result further c.add_item.new.self ≡ with_item_claims design i before (drop i items) c.loop-index.self =
    ap₂ (λ (n b : ℕ). with_item_claims design n b further c.add_item.new.self) next c.behind-before.ensures
    ∙ ap (with_item_claims design (suc i) (and_behind item before) further) added
    ∙ ap (λ (list : List Item). with_item_claims design i before list c.loop-index.self) (sym cut) in
    record {
      added = whole ∙ c.loop-index.invariant.added;
      placed = subst (λ (b : ℕ). AreModelNumbers design (placings further) (drop b placed)) (sym c.behind-before.ensures) (placed_more design item further placed before left);
      few = omega (arith, c.behind-before.ensures, behind_few item before i c.loop-index.invariant.few);
    }
