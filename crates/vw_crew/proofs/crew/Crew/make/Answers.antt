use Rattle.std.proofs.Common.{◌≡◌, ◌+◌, ℕ, List, Bool, true, false, length, map, min, ap, sym, subst, ◌∙◌, true≢false, arith}
use Rattle.std.specs.List.{range_with_len}
use Rattle.std.specs.Option.{is_some}
use Rattle.std.proofs.lemmas.List.{length-map, with_items_is}
use Rattle.vw_answer.specs.Answers.{HasTold}
use Rattle.vw_plan.specs.declared.board.Board.{Board}
use Rattle.vw_plan.specs.declared.checked.Checked.{Checked}
use Rattle.vw_crew.specs.Groups.{SeenGroup, group_numbers, node_number, node_numbers}
use Rattle.vw_crew.specs.Laying.{AreThrough, IsBare, IsCrew}
use Rattle.vw_crew.specs.Seen.{AreDealt}
use Rattle.vw_crew.proofs.DealtNodes.{are_dealt}
use Rattle.vw_crew.proofs.Filling.{bare_groups}
use Rattle.vw_crew.proofs.Numbered.{are_numbered}
use Rattle.vw_crew.proofs.crew.Crew.make.Goals as goal

pub lay_all-requires-after_bounds : goal.lay_all-requires-after_bounds
lay_all-requires-after_bounds g c κs within =
    subst (IsBare c.args.job.now) (sym c.deref_mut.ensures.value)
    (bare_groups c.args.job.now c.in_ok-groups.groups.items c.min-count.result c.in_ok-groups.ensures.count (omega (arith, c.min-count.ensures, c.requires.some)) c.in_ok-groups.ensures.each)

pub invariant_of-result : goal.invariant_of-result
invariant_of-result g c =
    let job = c.args.job.now in
    let told = is_some (g.F.Fabric.carried c.args.fabric.now) in
    let keeps = is_some (g.F.Fabric.carried c.of-laid_by.result.value) in
    let new = c.lay_all.new.groups in
    let long : length new ≡ c.in_ok-groups.groups.len = c.lay_all.auto.groups ∙ ap (λ (groups : List SeenGroup). length groups) c.deref_mut.ensures.value ∙ sym c.in_ok-groups.groups.ok.0 in
    let items = with_items_is c.in_ok-groups.groups new long in
    let same : told ≡ keeps = ap (λ (fabric : _). is_some (g.F.Fabric.carried fabric)) (sym c.of-laid_by.ensures) in
    let crew : IsCrew job keeps new = subst (λ (one : Bool). IsCrew job one new) same c.in_ok-lay_all.ensures.ready in
    subst (λ (groups : List SeenGroup). IsCrew job keeps groups × HasTold job 1 c.in_ok-room.room × (false ≡ true → AreThrough job groups)) (sym items) (crew, c.in_ok-room.ensures, λ none. absurd (true≢false (sym none)))

pub returns-clause-groups : goal.returns-clause-groups
returns-clause-groups g c =
    let job = c.args.job.now in
    let told = is_some (g.F.Fabric.carried c.args.fabric.now) in
    let new = c.lay_all.new.groups in
    let long : length new ≡ c.in_ok-groups.groups.len = c.lay_all.auto.groups ∙ ap (λ (groups : List SeenGroup). length groups) c.deref_mut.ensures.value ∙ sym c.in_ok-groups.groups.ok.0 in
    let items = with_items_is c.in_ok-groups.groups new long in
    let nodes : c.chips.result + 1 ≡ job.checked.board.chips + 1 = ap (λ (n : ℕ). n + 1) (c.chips.ensures ∙ ap (λ (board : Board). board.chips) (c.board.ensures ∙ ap (λ (checked : Checked). checked.board) c.checked.ensures)) in
    let many : length new ≡ min c.args.workers (job.checked.board.chips + 1) = long ∙ c.in_ok-groups.groups.ok.0 ∙ c.in_ok-groups.ensures.count ∙ c.min-count.ensures ∙ ap (min c.args.workers) nodes in
    let dealt = are_dealt job told new c.in_ok-lay_all.ensures.ready c.args.workers (job.checked.board.chips + 1) (omega arith) many in
    subst (λ (groups : List SeenGroup). AreDealt c.args.workers (job.checked.board.chips + 1) (node_numbers groups)) (sym items) dealt

pub returns-clause-numbers : goal.returns-clause-numbers
returns-clause-numbers g c =
    let first = c.in_ok-groups.groups.items in
    let new = c.lay_all.new.groups in
    let long : length new ≡ c.in_ok-groups.groups.len = c.lay_all.auto.groups ∙ ap (λ (groups : List SeenGroup). length groups) c.deref_mut.ensures.value ∙ sym c.in_ok-groups.groups.ok.0 in
    let items = with_items_is c.in_ok-groups.groups new long in
    let same : group_numbers new ≡ group_numbers first = c.lay_all.ensures.numbers ∙ ap group_numbers c.deref_mut.ensures.value in
    let many : length first ≡ length (node_numbers new) = sym c.in_ok-groups.groups.ok.0 ∙ sym long ∙ sym (length-map new (λ (group : SeenGroup). map node_number group.nodes)) in
    subst (λ (groups : List SeenGroup). group_numbers groups ≡ range_with_len 0 (length (node_numbers groups))) (sym items)
    (same ∙ are_numbered c.args.job.now c.min-count.result first c.in_ok-groups.ensures.each ∙ ap (range_with_len 0) many)
