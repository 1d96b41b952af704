use Rattle.std.proofs.Common.{◌∙◌, ℕ, List, subst, IfOk, arith, ap, length}
use Rattle.vw_net.proofs.GatheredLists.{mapped_more}
use Rattle.vw_plan.specs.declared.wire.Wire.{Wire}
use Rattle.vw_ready.specs.Pairs.{HasPairs}
use Rattle.vw_ready.proofs.PushedElements.{all_pushed, same_pair}
use Rattle.vw_ready.proofs.home.wire_table.Goals as goal

-- the pairs are those of all of them
pub returns : goal.returns
returns c =
    let all = all_pushed (λ (wire : Wire). (wire.net, wire.to)) c.args.plan.now.wires c.loop-wire.wire-index c.loop-wire.pairs.items (omega (arith, ap length c.wires-wire-items.ensures)) c.loop-wire.invariant in
    subst (λ (pairs : List (ℕ × ℕ)). IfOk c.of.result (λ table. HasPairs pairs table.places)) (c.deref.ensures.value ∙ all) c.of.ensures

pub loop-wire-preserved : goal.loop-wire-preserved
loop-wire-preserved c =
    let listed = c.wires-wire-items.ensures in
    let here = rw listed at c.wire-item.is in
    mapped_more (λ (wire : Wire). (wire.net, wire.to)) c.args.plan.now.wires c.loop-wire.wire-index c.wire-item.result c.loop-wire.pairs.items c.push.new.self.items _ (c.net.result, c.to.result) (rw listed at c.loop-wire-test.true) (same_pair c.net.result c.to.result _ _ (c.net.ensures ∙ ap (λ (wire : Wire). wire.net) here) (c.to.ensures ∙ ap (λ (wire : Wire). wire.to) here)) c.in_ok-push.ensures.items c.loop-wire.invariant
