-- the travel from the nodes so far, each part of which is small
use Rattle.std.proofs.Common.{◌≡◌, ◌≤◌, ◌*◌}
use Rattle.vw_place.specs.Steps.Traffic.{travel_before}
use Rattle.vw_place.proofs.pair_table.PairTable.travel.Given as goal

abbrev pub invariant-loop-from : goal.invariant-loop-from
invariant-loop-from l = record {
  so_far : l.travel ≡ travel_before l.self l.nodes.board l.nodes.numbers l.from;
  small : l.travel ≤ l.from * 2426535936;
}
