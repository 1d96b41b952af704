use Rattle.std.proofs.Common.{◌≡◌, ◌+◌, List, ℕ, Option, None, sym, subst, drop, filter_map, get_or, refl}
use Rattle.std.specs.List.{AllZip}
use Rattle.std.proofs.lemmas.List.{drop_all}
use Rattle.vw_design.specs.declared.item.Item.{Item}
use Rattle.vw_design.specs.Paths.{Placing}
use Rattle.vw_design.specs.ModelNumbers.{IsNumberOfModel}
use Rattle.vw_models.proofs.Unknowns.{AreAlong}
use Rattle.vw_models.specs.declared.numbered_placing.NumberedPlacing.{NumberedPlacing}
use Rattle.vw_models.specs.Steps.PlacedModels.{PlacedModel, placed_by}
use Rattle.vw_models.proofs.AddedPlacings.{IsAdding, ended, sub_cut, no_sub, passed_over, placed_now}
use Rattle.vw_models.proofs.numbered_placing.add_placed.Goals as goal
use Rattle.vw_models.proofs.numbered_placing.add_placed.Goals.{in-Sub, in-Some+in_ok-push, in_default-targets, in_default}
use Rattle.vw_order.proofs.NoValue.{none_is}

pub loop-item-preserved : goal.loop-item-preserved
loop-item-preserved c =
    let design = c.args.design.now in
    let items = c.args.items.now in
    let numbers = c.args.targets.now in
    let i = c.loop-item.item-index in
    let place = c.loop-item.place in
    let item = c.item-item.result in
    let within = c.loop-item-test.true in
    let start = c.args.placed.now.items in
    let todo = filter_map (placed_by design) items in
    let kept = c.loop-item.invariant in
    elim c.match-item.branch [
      | in-Sub w ↦
          let cut = sub_cut design items numbers i place item within c.item-item.is w.in-Sub.line w.in-Sub.model w.in-Sub.binds w.in-Sub.is kept.left in
          let left = subst (λ (p : ℕ). AreAlong design (drop (i + 1) items) (drop p numbers)) (sym w.place-is) cut.rest in
          elim w.match-targets-place.branch [
            | in-Some+in_ok-push v ↦
                let number = v.in-Some.number in
                let here = subst (λ (found : Option ℕ). IsNumberOfModel design w.in-Sub.model found) v.in-Some.is cut.here in
                let more = placed_now design items numbers i place item within c.item-item.is w.in-Sub.line w.in-Sub.model w.in-Sub.binds w.in-Sub.is number here start todo c.loop-item.placed.items kept.adding
                (record { line = w.in-Sub.line; number = number; binds = v.as_slice.result }) refl refl v.as_slice.ensures in
                record {
                  left = left;
                  adding = subst (λ (l : List NumberedPlacing). IsAdding design start (filter_map (placed_by design) (drop (i + 1) items)) todo l) (cc (w.placed-is, v.placed-is, v.in_ok-push.ensures.items)) more;
                }
            | in_default-targets v ↦
                let here = subst (λ (found : Option ℕ). IsNumberOfModel design w.in-Sub.model found) (none_is (get_or numbers place None) v.in_default-targets.not-Some) cut.here in
                let same = passed_over design items numbers i place item within c.item-item.is w.in-Sub.line w.in-Sub.model w.in-Sub.binds w.in-Sub.is here in
                let stays : c.loop-item.placed.items ≡ c.match-item.placed.items = cc (w.placed-is, v.placed-is) in
                record {
                  left = left;
                  adding = subst (λ (l : List NumberedPlacing). IsAdding design start (filter_map (placed_by design) (drop (i + 1) items)) todo l) stays
                      (subst (λ (l : List PlacedModel). IsAdding design start l todo c.loop-item.placed.items) same kept.adding);
                }
          ]
      | in_default w ↦
          let same = no_sub design items numbers i place item within c.item-item.is w.in_default.not-Sub in
          let left : AreAlong design (drop (i + 1) items) (drop place numbers) = subst (λ (ps : List Placing). AllZip (λ placing number. IsNumberOfModel design placing.model number) ps (drop place numbers)) same.0 kept.left in
          let stays : c.loop-item.placed.items ≡ c.match-item.placed.items = cc (w.placed-is) in
          record {
            left = subst (λ (p : ℕ). AreAlong design (drop (i + 1) items) (drop p numbers)) (sym w.place-is) left;
            adding = subst (λ (l : List NumberedPlacing). IsAdding design start (filter_map (placed_by design) (drop (i + 1) items)) todo l) stays
                (subst (λ (l : List PlacedModel). IsAdding design start l todo c.loop-item.placed.items) same.1 kept.adding);
          }
    ]

pub bounds-targets-place : goal.bounds-targets-place
bounds-targets-place c =
    let sub = c.in-Sub in
    (sub_cut c.args.design.now c.args.items.now c.args.targets.now c.loop-item.item-index c.loop-item.place c.item-item.result c.loop-item-test.true c.item-item.is sub.line sub.model sub.binds sub.is
    c.loop-item.invariant.left).inside

pub returns : goal.returns
returns c =
    let design = c.args.design.now in
    let items = c.args.items.now in
    let start = c.args.placed.now.items in
    let todo = filter_map (placed_by design) items in
    let placed = c.loop-item.placed.items in
    ended design start todo placed
    (subst (λ (left : List Item). IsAdding design start (filter_map (placed_by design) left) todo placed) (drop_all c.loop-item.item-index items c.loop-item-test.false) c.loop-item.invariant.adding)
