use Rattle.std.proofs.Common.{◌<◌, All, not, sym, subst}
use Rattle.std.proofs.lemmas.List.Elements.{All-drop}
use Rattle.vw_fault.specs.declared.open.Open.{Open}
use Rattle.vw_fault.specs.Steps.Groups.{is_seen, net_count}
use Rattle.vw_fault.proofs.Groups.{group_further}
use Rattle.vw_fault.proofs.workers.open_in_turn.Goals as goal

-- a group more
pub loop-rest-preserved : goal.loop-rest-preserved
loop-rest-preserved c =
    let grading = c.args.grading.now in
    let rest = c.loop-rest.rest.now in
    let fits = λ (fault : Open). fault.net < net_count grading in
    record {
      within = subst (All fits) (sym c.split_at.ensures.back) (All-drop fits c.min.result rest c.loop-rest.invariant.within);
      graded = group_further (λ (fault : Open). not (is_seen grading fault)) rest c.split_at.result.0.now c.split_at.result.1.now c.loop-rest.left.items c.grade_group.new.left.items _ c.min.result c.split_at.ensures.front c.split_at.ensures.back c.in_ok-grade_group.ensures c.loop-rest.invariant.graded;
    }
