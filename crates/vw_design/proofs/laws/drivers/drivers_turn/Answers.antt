use Rattle.vw_design.proofs.TurnsEnd.{driver-turn}
use Rattle.vw_design.proofs.ShallowDesigns.{faultless_shallow, faultless_one_way}
use Rattle.vw_design.proofs.laws.drivers.drivers_turn.Goals as goal

-- the 127 turns behind the first are enough
pub returns : goal.returns
returns c = λ design faultless. driver-turn design (faultless_shallow design faultless) (faultless_one_way design faultless)
