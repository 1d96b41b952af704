use Rattle.std.proofs.Common.{◌≤◌, ℕ, List, subst}
use Rattle.vw_bound.specs.Pins.{PairsFit}
use Rattle.vw_bound.specs.PlacedDesigns.{placed_design}
use Rattle.vw_bound.specs.Times.{depth_bound}
use Rattle.vw_short_bound.specs.Shortest.{IsShortBound}
use Rattle.vw_chain.specs.Timing.{planned_of}
use Rattle.vw_report.proofs.report.short_finding.Goals as goal

pub returns : goal.returns
returns c =
    let planned = planned_of c.args.reported.now.timed.now in
    let placed = λ (chips : List ℕ). placed_design planned.ordered planned.board chips in (
      c.if-not-is_short.ensures.short,
      subst (λ (chips : List ℕ). IsShortBound (placed chips) c.in_ok-least.least) c.chip_of.ensures c.in_ok-least.ensures.bound,
      subst (λ (chips : List ℕ). depth_bound (placed chips) ≤ c.in_ok-least.least) c.chip_of.ensures c.in_ok-least.ensures.depth,
      subst (λ (chips : List ℕ). PairsFit (placed chips) c.in_ok-least.least) c.chip_of.ensures c.in_ok-least.ensures.pins,
    )
