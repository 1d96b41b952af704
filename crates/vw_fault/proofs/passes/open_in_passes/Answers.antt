use Rattle.std.proofs.Common.{◌≡◌, List, ◌<◌, arith, All, not, subst, sym, rules}
use Rattle.std.proofs.lemmas.List.Elements.{All-filter}
use Rattle.vw_fault.specs.declared.open.Open.{Open}
use Rattle.vw_fault.specs.Steps.Groups.{is_seen, net_count, open_of}
use Rattle.vw_fault.proofs.Rounds.{pass_further}
use Rattle.vw_fault.proofs.passes.open_in_passes.Goals as goal

-- what the first rows reveal is left out
pub loop-count-preserved : goal.loop-count-preserved
loop-count-preserved g c =
    let grading = c.args.grading.now in
    let first = c.first_rows.result in
    let fits = λ (fault : Open). fault.net < net_count grading in
    let left = c.loop-count.left.items in
    let are : c.in_ok-left.left.items ≡ open_of first left = subst (λ (list : List Open). c.in_ok-left.left.items ≡ open_of first list) c.deref.ensures.value c.in_ok-left.ensures in
    record {
      some = search rules;
      within = subst (All fits) (sym are) (All-filter (λ (fault : Open). not (is_seen first fault)) fits left c.loop-count.invariant.within);
      same = pass_further grading first c.loop-count.count c.first_rows.ensures.ordered c.first_rows.ensures.start c.first_rows.ensures.rows left c.in_ok-left.left.items _ are c.loop-count.invariant.same;
    }

-- so many rows more, unless their number has no room left
pub loop-count-smaller : goal.loop-count-smaller
loop-count-smaller g c =
    omega (arith, c.row_count-all.ensures, c.row_count-all.type_inv, c.loop-count.invariant.some, c.loop-count-test.true, c.saturating_mul-count.ensures)
