use Rattle.std.proofs.Common.{◌≡◌, ℕ, List, length, slice_get, ap, sym, subst, ◌∙◌, ⊎_elim, arith}
use Rattle.std.proofs.lemmas.List.{length_push}
use Rattle.vw_crew.specs.Groups.{IsFirstGroup, SeenGroup}
use Rattle.vw_crew.proofs.Filling.{got_push}
use Rattle.vw_crew.proofs.groups.first_groups.Goals as goal

pub loop-number-preserved : goal.loop-number-preserved
loop-number-preserved g c =
    let job = c.args.job.now in
    let old = c.loop-number.groups.items in
    let one = c.in_ok-make.field-0 in
    record {
      count = omega (arith, ap (λ (list : List SeenGroup). length list) c.in_ok-push.ensures.items, length_push old one, c.loop-number.invariant.count);
      each = λ number group is. ⊎_elim (c.loop-number.invariant.each number group)
          (λ (last : (number ≡ length old) × (group ≡ one)). subst (λ (at : ℕ). IsFirstGroup job c.args.count at group) (sym (last.0 ∙ c.loop-number.invariant.count)) (subst (IsFirstGroup job c.args.count c.loop-number.number) (sym last.1) c.in_ok-make.ensures))
          (got_push old one number group (ap (λ (list : List SeenGroup). slice_get list number) (sym c.in_ok-push.ensures.items) ∙ is));
    }
