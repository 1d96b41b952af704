-- the bindings so far were added
use Rattle.std.proofs.Common.{◌≡◌, ◌++◌, map, drop}
use Rattle.vw_drivers.specs.Names.{firsts_of, way_of}
use Rattle.vw_drivers.proofs.placed.binds_ways.Given as goal

abbrev pub invariant-loop-bind : goal.invariant-loop-bind
invariant-loop-bind l =
    l.ways.items ++ map (way_of l.own.firsts (firsts_of l.claims l.model)) (drop l.bind-index l.binds)
    ≡ map (way_of l.own.firsts (firsts_of l.claims l.model)) l.binds
