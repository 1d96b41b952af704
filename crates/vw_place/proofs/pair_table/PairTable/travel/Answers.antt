use Rattle.std.proofs.Common.{◌+◌, arith}
use Rattle.vw_place.specs.Steps.Traffic.{travel_from}
use Rattle.vw_net.proofs.SumsOverLists.{range_next}
use Rattle.vw_place.proofs.pair_table.PairTable.travel.Goals as goal

pub loop-from-preserved : goal.loop-from-preserved
loop-from-preserved c =
    let nodes = c.args.nodes.now in
    record {
      so_far = range_next (λ from. travel_from c.args.self.now nodes.board nodes.numbers from (nodes.board.chips + 1)) c.loop-from.from _ _ c.loop-from.invariant.so_far c.travel_from-travel.ensures.travel;
      small = omega (arith, c.loop-from.invariant.small, c.travel_from-travel.ensures.low);
    }
