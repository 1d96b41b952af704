-- What is found out of a plan. Source: this project.
use Rattle.std.specs.Prelude.{◌≤◌, ℕ, Option, None, Some}
use Rattle.vw_plan.specs.Good.{AreShort}
use Rattle.vw_plan.specs.PlannedBoard.{PlannedBoard}
use Rattle.vw_bound.specs.Bounds.{IsPeriodBound}
use Rattle.vw_bound.specs.Pins.{PairsFit}
use Rattle.vw_bound.specs.PlacedDesigns.{placed_by}
use Rattle.vw_bound.specs.Times.{depth_bound}
use Rattle.vw_short_bound.specs.Shortest.{IsShortBound}
use Rattle.vw_chain.specs.Chains.{IsCritical}
use Rattle.vw_report.specs.declared.findings.Findings.{Findings}

-- a bound for plans with shortest wires is found exactly where the plan is one, and asks for what depth and pins of nodes ask for
abbrev pub IsShortFinding : PlannedBoard → Option ℕ → Type 0
IsShortFinding planned None = ¬ (AreShort planned)
IsShortFinding planned (Some bound) =
    AreShort planned × IsShortBound (placed_by planned) bound × (depth_bound (placed_by planned) ≤ bound) × PairsFit (placed_by planned) bound

-- the bounds are bounds, and at least what depth and pins of nodes ask for; the chain sets the period
pub record AreFindings (planned : PlannedBoard) (found : Findings) : Type 0 where
  pub bound : IsPeriodBound (placed_by planned) found.bound
  pub depth : depth_bound (placed_by planned) ≤ found.bound
  pub pins : PairsFit (placed_by planned) found.bound
  pub short : IsShortFinding planned found.short
  pub critical : IsCritical planned found.critical
