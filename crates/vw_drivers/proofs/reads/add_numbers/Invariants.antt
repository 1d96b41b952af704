-- the names so far were added
use Rattle.std.proofs.Common.{◌≡◌, ◌++◌, map, drop}
use Rattle.vw_drivers.specs.Firsts.{number_named}
use Rattle.vw_drivers.proofs.reads.add_numbers.Given as goal

abbrev pub invariant-loop-name : goal.invariant-loop-name
invariant-loop-name l =
    l.list.items ++ map (number_named l.claims.firsts) (drop l.name-index l.names) ≡ l.fn.list.items ++ map (number_named l.claims.firsts) l.names
