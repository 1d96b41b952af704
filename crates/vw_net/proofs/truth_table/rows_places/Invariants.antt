-- what is left of the rows decides
use Rattle.std.proofs.Common.{◌≡◌, drop}
use Rattle.vw_net.specs.Steps.MatchedPlaces.{rows_places}
use Rattle.vw_net.proofs.truth_table.rows_places.Given as goal

abbrev pub invariant-loop-row : goal.invariant-loop-row
invariant-loop-row l = rows_places l.places (drop l.row-index l.rows) ≡ rows_places 0 l.rows
