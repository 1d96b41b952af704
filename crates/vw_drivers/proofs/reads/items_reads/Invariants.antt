-- the items so far were added
use Rattle.std.proofs.Common.{◌≡◌, ◌++◌, map, drop}
use Rattle.vw_drivers.specs.Firsts.{number_named}
use Rattle.vw_drivers.specs.Names.{reads_of}
use Rattle.vw_drivers.proofs.reads.items_reads.Given as goal

abbrev pub invariant-loop-item : goal.invariant-loop-item
invariant-loop-item l =
    l.reads.items ++ map (λ item. map (number_named l.claims.firsts) (reads_of item)) (drop l.item-index l.items)
    ≡ map (λ item. map (number_named l.claims.firsts) (reads_of item)) l.items
