use Rattle.std.proofs.Common.{◌≤◌, ℕ, List, subst}
use Rattle.vw_bound.specs.Bounds.{IsPeriodBound}
use Rattle.vw_bound.specs.Pins.{PairsFit}
use Rattle.vw_bound.specs.PlacedDesigns.{placed_design}
use Rattle.vw_bound.specs.Times.{depth_bound}
use Rattle.vw_chain.specs.Timing.{planned_of}
use Rattle.vw_report.proofs.report.findings_of.Goals as goal

pub returns : goal.returns
returns c =
    let planned = planned_of c.args.reported.now.timed.now in
    let placed = λ (chips : List ℕ). placed_design planned.ordered planned.board chips in
    record {
      bound = subst (λ (chips : List ℕ). IsPeriodBound (placed chips) c.in_ok-least.least) c.chip_of.ensures c.in_ok-least.ensures.bound;
      depth = subst (λ (chips : List ℕ). depth_bound (placed chips) ≤ c.in_ok-least.least) c.chip_of.ensures c.in_ok-least.ensures.depth;
      pins = subst (λ (chips : List ℕ). PairsFit (placed chips) c.in_ok-least.least) c.chip_of.ensures c.in_ok-least.ensures.pins;
      short = c.in_ok-short_finding.ensures;
      critical = c.in_ok-critical_chain.ensures;
    }
