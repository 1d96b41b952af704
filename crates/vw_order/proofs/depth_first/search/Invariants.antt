-- nothing is open, and the numbers so far that have to be reached are done
use Rattle.std.proofs.Common.{◌≡◌, ◌<◌, ℕ, []}
use Rattle.std.specs.Prelude.{IsTrue}
use Rattle.vw_net.specs.Order.{is_among}
use Rattle.vw_order.specs.Steps.Searches.{IsDepthSearch}
use Rattle.vw_order.proofs.depth_first.search.Given as goal

abbrev pub invariant-loop-number : goal.invariant-loop-number
invariant-loop-number g l =
    let graph = g.D.Digraph.graph l.digraph in
    IsDepthSearch graph l.depth × (l.depth.stack.items ≡ [])
    × ((number : ℕ) → number < l.number → IsTrue (graph.starts number) → IsTrue (is_among l.depth.order.items number))
