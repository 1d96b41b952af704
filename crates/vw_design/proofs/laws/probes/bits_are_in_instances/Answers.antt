use Rattle.vw_design.proofs.WatchedNets.{bit_of_instance}
use Rattle.vw_design.proofs.laws.probes.bits_are_in_instances.Goals as goal

-- a path without a model has no claims
pub returns : goal.returns
returns c = bit_of_instance
