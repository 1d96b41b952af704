use Rattle.vw_design.proofs.FewPlaces.{place_few}
use Rattle.vw_design.proofs.laws.probes.places_are_few.Goals as goal

-- each place has an instance of its own
pub returns : goal.returns
returns c = place_few
