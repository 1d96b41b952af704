-- the travel to the nodes so far, each part of which is small
use Rattle.std.proofs.Common.{◌≡◌, ◌≤◌, ◌*◌}
use Rattle.vw_place.specs.Steps.Traffic.{travel_from}
use Rattle.vw_place.proofs.pair_table.PairTable.travel_from.Given as goal

abbrev pub invariant-loop-to : goal.invariant-loop-to
invariant-loop-to l = record {
  so_far : l.travel ≡ travel_from l.self l.nodes.board l.nodes.numbers l.from l.to;
  small : l.travel ≤ l.to * 73531392;
}
