-- what is left of the marks decides
use Rattle.std.proofs.Common.{◌≡◌, drop}
use Rattle.vw_net.specs.Steps.MatchedPlaces.{row_places}
use Rattle.vw_net.proofs.truth_table.row_places.Given as goal

abbrev pub invariant-loop-i : goal.invariant-loop-i
invariant-loop-i l = row_places l.places l.i (drop l.i l.marks) ≡ row_places 18446744073709551615 0 l.marks
