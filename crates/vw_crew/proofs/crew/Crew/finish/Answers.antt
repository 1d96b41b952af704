use Rattle.std.proofs.Common.{◌≡◌, List, true, length, ap, sym, subst, ◌∙◌}
use Rattle.std.specs.Option.{is_some}
use Rattle.std.proofs.lemmas.List.{with_items_is}
use Rattle.vw_answer.specs.Answers.{HasTold}
use Rattle.vw_crew.specs.Groups.{AllAtWork, AllStay, SeenGroup, group_numbers, node_numbers}
use Rattle.vw_crew.specs.Laying.{AreThrough, IsCrew}
use Rattle.vw_crew.specs.Seen.{SeenCrew}
use Rattle.vw_crew.proofs.DealtNodes.{numbers_stay}
use Rattle.vw_crew.proofs.CrewStays.{crew_stays, through}
use Rattle.vw_crew.proofs.crew.Crew.finish.Goals as goal

pub finish-requires-after_bounds : goal.finish-requires-after_bounds
finish-requires-after_bounds g c κs within = subst AllAtWork (sym c.deref_mut.ensures.value) c.self.invariant.0.work

pub invariant_of-self : goal.invariant_of-self
invariant_of-self g c =
    let job = c.self.inside.job.now in
    let keeps = is_some (g.F.Fabric.carried c.self.inside.laid_by.value) in
    let new = c.finish.new.groups in
    let old = c.self.inside.groups.items in
    let long : length new ≡ c.self.inside.groups.len = c.finish.auto.groups ∙ ap (λ (groups : List SeenGroup). length groups) c.deref_mut.ensures.value ∙ sym c.self.inside.groups.ok.0 in
    let items = with_items_is c.self.inside.groups new long in
    let stay : AllStay old new = subst (λ (groups : List SeenGroup). AllStay groups new) c.deref_mut.ensures.value c.finish.ensures.stay in
    let crew : IsCrew job keeps new = crew_stays old new stay job keeps c.self.invariant.0 c.finish.ensures.work in
    let done : AreThrough job new = through job new c.share-clocks.result.clocks c.share-clocks.ensures.clocks c.finish.ensures.done in
    subst (λ (groups : List SeenGroup). IsCrew job keeps groups × HasTold job 1 c.self.inside.room × (true ≡ true → AreThrough job groups)) (sym items) (crew, c.self.invariant.1, λ same. done)

pub returns-clause-groups : goal.returns-clause-groups
returns-clause-groups g c =
    let new = c.finish.new.groups in
    let old = c.self.inside.groups.items in
    let long : length new ≡ c.self.inside.groups.len = c.finish.auto.groups ∙ ap (λ (groups : List SeenGroup). length groups) c.deref_mut.ensures.value ∙ sym c.self.inside.groups.ok.0 in
    let items = with_items_is c.self.inside.groups new long in
    let stay : AllStay old new = subst (λ (groups : List SeenGroup). AllStay groups new) c.deref_mut.ensures.value c.finish.ensures.stay in
    ap node_numbers items ∙ numbers_stay old new stay ∙ ap (λ (seen : SeenCrew). seen.groups) c.self.view_is

pub returns-clause-numbers : goal.returns-clause-numbers
returns-clause-numbers g c =
    let new = c.finish.new.groups in
    let old = c.self.inside.groups.items in
    let long : length new ≡ c.self.inside.groups.len = c.finish.auto.groups ∙ ap (λ (groups : List SeenGroup). length groups) c.deref_mut.ensures.value ∙ sym c.self.inside.groups.ok.0 in
    let items = with_items_is c.self.inside.groups new long in
    let stay : AllStay old new = subst (λ (groups : List SeenGroup). AllStay groups new) c.deref_mut.ensures.value c.finish.ensures.stay in
    ap group_numbers items ∙ stay.numbers ∙ ap (λ (seen : SeenCrew). seen.numbers) c.self.view_is
