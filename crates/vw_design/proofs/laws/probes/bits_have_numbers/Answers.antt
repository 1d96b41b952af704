use Rattle.vw_design.proofs.WatchedNets.{number_of_bit, bit_of_number}
use Rattle.vw_design.proofs.laws.probes.bits_have_numbers.Goals as goal

-- by what its driver may be
pub returns-clause-numbered : goal.returns-clause-numbered
returns-clause-numbered c = number_of_bit

pub returns-clause-bits : goal.returns-clause-bits
returns-clause-bits c = bit_of_number
