use Rattle.std.proofs.Common.{◌∙◌, ℕ, List, subst, IfOk, arith}
use Rattle.vw_net.proofs.GatheredLists.{mapped_more}
use Rattle.vw_plan.specs.declared.need.Need.{Need}
use Rattle.vw_ready.specs.Pairs.{HasPairs}
use Rattle.vw_ready.proofs.PushedElements.{all_pushed, same_pair}
use Rattle.vw_check.proofs.wires.need_table.Goals as goal

-- the pairs are those of all of them
pub returns : goal.returns
returns c =
    let all = all_pushed (λ (need : Need). (need.net, need.to)) c.args.needs.now c.loop-need.need-index c.loop-need.pairs.items (omega arith) c.loop-need.invariant in
    subst (λ (pairs : List (ℕ × ℕ)). IfOk c.of.result (λ table. HasPairs pairs table.places)) (c.deref.ensures.value ∙ all) c.of.ensures

pub loop-need-preserved : goal.loop-need-preserved
loop-need-preserved c =
    mapped_more (λ (need : Need). (need.net, need.to)) c.args.needs.now c.loop-need.need-index _ c.loop-need.pairs.items c.push.new.self.items _ (c.net.result, c.to.result) c.loop-need-test.true (same_pair c.net.result c.to.result _ _ c.net.ensures c.to.ensures) c.in_ok-push.ensures.items c.loop-need.invariant
