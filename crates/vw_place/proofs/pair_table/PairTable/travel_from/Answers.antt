use Rattle.std.proofs.Common.{◌≡◌, ◌<◌, ◌≤◌, ◌+◌, ◌*◌, ℕ, List, get_or, length, ap, ap₂, ◌∙◌, arith}
use Rattle.std.proofs.lemmas.List.{get_or_default}
use Rattle.vw_place.specs.Steps.NodeLists.{renumbered_node}
use Rattle.vw_place.specs.Steps.Traffic.{travel_between}
use Rattle.vw_net.proofs.SumsOverLists.{range_next}
use Rattle.vw_place.proofs.Travels.{distance_low, product_low}
use Rattle.vw_place.proofs.pair_table.PairTable.travel_from.Goals as goal

-- few pairs, and near ones
pub loop-to-preserved : goal.loop-to-preserved
loop-to-preserved c =
    let nodes = c.args.nodes.now in
    let to = c.loop-to.to in
    let place = c.args.from * 33 + to in
    let counts = c.self.inside.counts.items in
    let pairs = c.index-pairs.result.now in
    let within : place < length counts = omega (arith, nodes.board.few_chips, c.requires, c.len-to-end.ensures, c.loop-to-test.true, c.self.invariant.long) in
    let is_pairs : pairs ≡ get_or c.args.self.now place 0 = c.index-pairs.ensures ∙ get_or_default counts place pairs 0 within ∙ ap (λ (list : List ℕ). get_or list place 0) c.self.view_is in
    let few : pairs ≤ 2297856 = omega (arith, c.index-pairs.ensures, c.self.invariant.low place pairs within) in
    let near : c.distance.result ≤ 32 = omega (arith, c.distance.ensures, distance_low nodes.board (renumbered_node nodes.numbers c.args.from) (renumbered_node nodes.numbers to)) in
    record {
      so_far = range_next (travel_between c.args.self.now nodes.board nodes.numbers c.args.from) to _ _ c.loop-to.invariant.so_far (ap₂ (λ (count far : ℕ). count * far) is_pairs c.distance.ensures);
      small = omega (arith, c.loop-to.invariant.small, product_low pairs c.distance.result few near);
    }
