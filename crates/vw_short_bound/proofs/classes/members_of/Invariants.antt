-- each place so far that has its bit passes
use Rattle.std.proofs.Common.{◌≡◌, ◌<◌, ℕ, true, false, length, slice_index}
use Rattle.std.specs.Prelude.{slice_index_or}
use Rattle.vw_bound.specs.Given.{design_in}
use Rattle.vw_bound.specs.PlacedDesigns.{home_in}
use Rattle.vw_short_bound.specs.Steps.Rows.{has}
use Rattle.vw_short_bound.proofs.classes.members_of.Given as goal

abbrev pub invariant-loop-place : goal.invariant-loop-place
invariant-loop-place l = (at : ℕ) → has l.row.items at ≡ true → at < length l.nets → slice_index_or l.wide (home_in (design_in l.placed) (slice_index l.nets at)) false ≡ true
