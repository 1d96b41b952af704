use Rattle.std.proofs.Common.{◌+◌, not, List, ℕ, ◌∙◌, ap, sym, subst, drop}
use Rattle.std.specs.List.{AllZip}
use Rattle.std.proofs.lemmas.List.{drop_all}
use Rattle.vw_net.specs.FirstFound.{first_found}
use Rattle.vw_design.specs.Paths.{Placing}
use Rattle.vw_design.specs.ModelNumbers.{IsNumberOfModel}
use Rattle.vw_models.specs.Steps.Unknown.{unknown_of}
use Rattle.vw_models.proofs.AddedPlacings.{sub_cut}
use Rattle.vw_models.proofs.Unknowns.{AreAlong, sub_step, other_step}
use Rattle.vw_models.proofs.unknown.unknown_item.Goals as goal
use Rattle.vw_models.proofs.unknown.unknown_item.Goals.{in-Sub+else-is_none, in_default}

-- the next place at a `.subckt` item, and the same one at another
pub loop-item-preserved : goal.loop-item-preserved
loop-item-preserved c =
    let design = c.args.design.now in
    let items = c.args.items.now in
    let numbers = c.args.targets.now in
    let i = c.loop-item.item-index in
    elim c.match-item.branch [
      | in-Sub+else-is_none w ↦
          let step = sub_step design items numbers i c.loop-item.place c.item-item.result w.in-Sub.line w.in-Sub.model w.in-Sub.binds c.loop-item-test.true c.item-item.is w.in-Sub.is c.loop-item.invariant.left (w.is_none.ensures ∙ ap not w.if-is_none.false) in
          record { left = subst (λ (p : ℕ). AreAlong design (drop (i + 1) items) (drop p numbers)) (sym w.place-is) step.0; found = sym step.1 ∙ c.loop-item.invariant.found }
      | in_default w ↦
          let step = other_step design items i c.item-item.result c.loop-item-test.true c.item-item.is w.in_default.not-Sub in
          let left : AreAlong design (drop (i + 1) items) (drop c.loop-item.place numbers) = subst (λ (ps : List Placing). AllZip (λ placing number. IsNumberOfModel design placing.model number) ps (drop c.loop-item.place numbers)) step.0 c.loop-item.invariant.left in
          record { left = subst (λ (p : ℕ). AreAlong design (drop (i + 1) items) (drop p numbers)) (sym w.place-is) left; found = sym step.1 ∙ c.loop-item.invariant.found }
    ]

pub bounds-targets-place : goal.bounds-targets-place
bounds-targets-place c =
    let sub = c.in-Sub in
    (sub_cut c.args.design.now c.args.items.now c.args.targets.now c.loop-item.item-index c.loop-item.place c.item-item.result c.loop-item-test.true c.item-item.is sub.line sub.model sub.binds sub.is
    c.loop-item.invariant.left).inside

pub returns : goal.returns
returns c = sym (ap (first_found (unknown_of c.args.design.now)) (drop_all c.loop-item.item-index c.args.items.now c.loop-item-test.false)) ∙ c.loop-item.invariant.found
