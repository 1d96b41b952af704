-- the items so far were added
use Rattle.std.proofs.Common.{◌≡◌, ◌++◌, length, drop}
use Rattle.vw_drivers.specs.Steps.GatheredNames.{placed_from}
use Rattle.vw_drivers.proofs.placed.items_placed.Given as goal

abbrev pub invariant-loop-number : goal.invariant-loop-number
invariant-loop-number l =
    l.placed.items ++ placed_from l.own.firsts l.claims l.targets l.number (length l.placed.items) (drop l.number l.items)
    ≡ placed_from l.own.firsts l.claims l.targets 0 0 l.items
