-- each turn opens a number or has done with one, so there are at most two for each
use Rattle.std.proofs.Common.{◌+◌, ◌-◌, ◌*◌, length}
use Rattle.vw_order.specs.Steps.Searches.{IsDepthSearch, KeepsNumbers}
use Rattle.vw_order.proofs.depth_first.go_on.Given as goal

abbrev pub invariant-loop-number : goal.invariant-loop-number
invariant-loop-number g l = IsDepthSearch (g.D.Digraph.graph l.digraph) l.depth × KeepsNumbers l.fn.depth l.depth

abbrev pub decreases-loop-number : goal.decreases-loop-number
decreases-loop-number g l =
    2 * (g.D.Digraph.graph l.digraph).count - (2 * length l.depth.order.items + length l.depth.stack.items)
