use Rattle.vw_design.proofs.TurnsEnd.{only_driver}
use Rattle.vw_design.proofs.ShallowDesigns.{faultless_shallow, faultless_one_way}
use Rattle.vw_design.proofs.laws.drivers.drivers_are_one.Goals as goal

-- the way goes up and then down
pub returns : goal.returns
returns c = λ design faultless. only_driver design (faultless_shallow design faultless) (faultless_one_way design faultless)
