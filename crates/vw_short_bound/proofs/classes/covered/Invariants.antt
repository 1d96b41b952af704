-- the nodes so far that pass are covered
use Rattle.std.proofs.Common.{◌≡◌, ℕ, true, false, length}
use Rattle.std.specs.Prelude.{slice_index_or}
use Rattle.vw_bound.specs.Given.{design_in}
use Rattle.vw_short_bound.specs.Steps.Inlets.{IsCovered}
use Rattle.vw_short_bound.proofs.classes.covered.Given as goal

abbrev pub invariant-loop-home : goal.invariant-loop-home
invariant-loop-home l = record {
  long : length l.wide.items ≡ l.home;
  each : (home : ℕ) → slice_index_or l.wide.items home false ≡ true → IsCovered (design_in l.placed) l.node l.source home;
}
