use Rattle.std.proofs.Common.{◌≡◌, ◌∙◌, List, None, IfOk, ap, subst}
use Rattle.vw_net.specs.Sorting.{sorted}
use Rattle.vw_net.proofs.SortedLists.{sorted_is}
use Rattle.vw_emit_text.specs.declared.numbered_hop.NumberedHop.{NumberedHop}
use Rattle.vw_emit_text.specs.Outlets.{leaves_before, outlets_behind}
use Rattle.vw_emit_text.proofs.HopOrder.{is_order, same_hop}
use Rattle.vw_emit_text.proofs.outlet.outlets.Goals as goal

pub returns : goal.returns
returns c =
    let in_order : c.as_slice.result.now ≡ sorted leaves_before c.args.hops.now =
    c.as_slice.ensures.value
    ∙ sorted_is leaves_before is_order same_hop c.in_ok-in_order.in_order.items c.sort.new.self.items c.in_ok-sort.ensures.permutation c.in_ok-sort.ensures.sorted
    ∙ ap (sorted leaves_before) (c.in_ok-in_order.ensures.items_if_clones_equal (λ one hop same. same)) in
    subst (λ (hops : List NumberedHop). IfOk c.in_turn.result (λ list. list.items ≡ outlets_behind None 0 hops)) in_order c.in_turn.ensures
