use Rattle.std.proofs.Common.{◌≡◌, ◌+◌, ◌++◌, ◌∙◌, ℕ, true, false, List, slice_index, ap, subst}
use Rattle.std.specs.List.Sorted.{IsPermutation}
use Rattle.vw_pipe.specs.declared.task.Task.{Task}
use Rattle.vw_pipe.specs.Steps.Tasks.{all_tasks, tasks_from}
use Rattle.vw_pipe.proofs.Rising.{rising_from_sorted, same_tasks}
use Rattle.vw_pipe.proofs.task.tasks_in_order.Goals as goal

pub returns : goal.returns
returns c =
    let ordered = c.args.ordered.now in
    let turns = c.args.turns.now in
    let none = c.in_ok-tasks.tasks.items in
    let leads = c.list_leads.new.tasks.items in
    let sends = c.list_sends.new.tasks.items in
    let nets : c.deref.result.now ≡ turns.nets.items = c.deref.ensures.value in
    let routes : c.deref-2.result.now ≡ turns.routes.items = c.deref-2.ensures.value in
    let leads_are = c.in_ok-list_leads.ensures ∙ ap (λ (list : List ℕ). none ++ tasks_from (λ number. slice_index list (ordered.flat.inputs + number)) false 0 ordered.order) nets in
    let sends_are = c.in_ok-list_sends.ensures ∙ ap (λ (list : List ℕ). leads ++ tasks_from (λ turn. turn) true 0 list) routes in
    let listed : sends ≡ all_tasks ordered turns = same_tasks ordered turns none leads sends c.in_ok-tasks.ensures.items leads_are sends_are in
    let same = subst (λ (list : List Task). IsPermutation list c.sort.new.self.items) listed c.in_ok-sort.ensures.permutation in
    (same, rising_from_sorted c.sort.new.self.items c.in_ok-sort.ensures.sorted)
