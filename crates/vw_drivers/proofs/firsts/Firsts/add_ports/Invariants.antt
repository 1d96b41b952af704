-- the ports so far were added
use Rattle.std.proofs.Common.{◌≡◌, drop, map}
use Rattle.vw_drivers.specs.Steps.GatheredClaims.{port_first, with_firsts}
use Rattle.vw_drivers.proofs.firsts.Firsts.add_ports.Given as goal

abbrev pub invariant-loop-name : goal.invariant-loop-name
invariant-loop-name l = with_firsts l.self (map port_first (drop l.name-index l.names)) ≡ with_firsts l.fn.self (map port_first l.names)
