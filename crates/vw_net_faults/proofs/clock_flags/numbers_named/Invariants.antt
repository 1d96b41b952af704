-- the numbers so far, and those of the names that are left
use Rattle.std.proofs.Common.{◌≡◌, ◌++◌, drop, filter_map}
use Rattle.vw_drivers.specs.Firsts.{number_named}
use Rattle.vw_net_faults.proofs.clock_flags.numbers_named.Given as goal

abbrev pub invariant-loop-name : goal.invariant-loop-name
invariant-loop-name l = l.numbers.items ++ filter_map (number_named l.claims.firsts) (drop l.name-index l.names) ≡ filter_map (number_named l.claims.firsts) l.names
