use Rattle.std.proofs.Common.{◌≤◌, ℕ, List, replicate, sym, ◌∙◌, ap, subst, arith}
use Rattle.vw_order.specs.declared.progress.Progress.TheVariants.{Fresh}
use Rattle.vw_order.specs.Circles.{IsNumberCircle, BeginsWithLeast}
use Rattle.vw_order.proofs.LeastFirst.{from_least}
use Rattle.vw_order.proofs.DepthSearches.{begun, same_search, visited_further, all_visited}
use Rattle.vw_order.proofs.depth_first.search.Goals as goal

pub loop-number-init : goal.loop-number-init
loop-number-init g c =
    let graph = g.D.Digraph.graph c.args.digraph.now in
    let made = c.in_ok-depth.ensures in (
      same_search graph _ _ _ _ _ _ _ _ (begun graph) (made.progress ∙ ap (λ (n : ℕ). replicate n Fresh) c.count.ensures) (made.cursors ∙ ap (λ (n : ℕ). replicate {A = ℕ} n 0) c.count.ensures) made.order made.stack,
      made.stack,
      λ number before. absurd (omega arith),
    )

-- the circle from its least number on
pub returns-in-Some : goal.returns-in-Some
returns-in-Some g c =
    let graph = g.D.Digraph.graph c.args.digraph.now in
    let circle = c.deref.result.now in
    let is_circle : IsNumberCircle graph circle = subst (λ (l : List ℕ). IsNumberCircle graph l) (sym c.deref.ensures.value) (rw c.in-Some.is at c.in_ok-circle.ensures) in
    let made = c.in_ok-from_least.ensures in
    subst (λ (l : List ℕ). IsNumberCircle graph l × BeginsWithLeast l) (sym made.2) (from_least graph circle made.0 made.1 is_circle)

pub loop-number-preserved : goal.loop-number-preserved
loop-number-preserved g c =
    let far = c.loop-number.invariant in
    visited_further (g.D.Digraph.graph c.args.digraph.now) c.loop-number.depth c.visit.new.depth c.loop-number.number far.1 far.2 (rw c.in_default.is at c.in_ok-circle.ensures)

pub returns : goal.returns
returns g c =
    let far = c.loop-number.invariant in
    let graph = g.D.Digraph.graph c.args.digraph.now in
    let past : graph.count ≤ c.loop-number.number = omega (arith, c.loop-number-test.false, c.count-number-end.ensures) in
    all_visited graph c.requires c.loop-number.depth c.loop-number.number past far.0 far.1 far.2
