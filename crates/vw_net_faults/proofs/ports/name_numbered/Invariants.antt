-- nothing is found yet
use Rattle.std.proofs.Common.{◌≡◌, drop, find}
use Rattle.vw_drivers.specs.Firsts.{number_named}
use Rattle.vw_net_faults.specs.Steps.Ports.{is_found_number}
use Rattle.vw_net_faults.proofs.ports.name_numbered.Given as goal

abbrev pub invariant-loop-name : goal.invariant-loop-name
invariant-loop-name l = find (λ name. is_found_number (number_named l.claims.firsts name) l.number) (drop l.name-index l.names) ≡ find (λ name. is_found_number (number_named l.claims.firsts name) l.number) l.names
