use Rattle.vw_flat.proofs.FirstProbes.{found_apart, first_once}
use Rattle.vw_flat.proofs.laws.one_probe_is_first_without_net.Goals as goal

-- the probes before it find their nets
pub returns-clause-apart : goal.returns-clause-apart
returns-clause-apart c = found_apart

pub returns-clause-one : goal.returns-clause-one
returns-clause-one c = first_once
