use Rattle.std.proofs.Common.{◌≡◌, ◌∙◌, ℕ, List, ap, max, slice_index, sym, subst, rules}
use Rattle.vw_bound.specs.Given.{design_in}
use Rattle.vw_bound.specs.Times.{due_by}
use Rattle.vw_short_bound.specs.Steps.Inlets.{IsBelowPeriods}
use Rattle.vw_short_bound.proofs.PlanFacts.{greater_below}
use Rattle.vw_short_bound.proofs.SoonestNets.{due_below}
use Rattle.vw_short_bound.proofs.periods.pressed_bound.Goals as goal

pub returns : goal.returns
returns c =
    let placed = design_in c.args.placed.now in
    let soon = c.in_ok-soon.soon.items in
    let is : c.due-last.result ≡ due_by placed (slice_index soon) = c.due-last.ensures.value ∙ ap (λ (table : List ℕ). due_by placed (slice_index table)) c.deref-6.ensures.value in
    let last = subst (IsBelowPeriods placed) (sym is) (due_below placed soon c.in_ok-soon.ensures) in
    let greater : c.max.result ≡ max c.due-last.result c.in_ok-pressed_nodes.field-0 = search rules in
    greater_below placed c.due-last.result c.in_ok-pressed_nodes.field-0 c.max.result greater last c.in_ok-pressed_nodes.ensures
