-- what stands before the place is done
use Rattle.std.specs.Prelude.{slice_index}
use Rattle.vw_order.specs.Steps.SearchProgress.{AreDone}
use Rattle.vw_order.proofs.depth.DepthSearch.ahead.Given as goal

abbrev pub invariant-loop-place : goal.invariant-loop-place
invariant-loop-place g l =
    AreDone l.self.progress.items ((g.D.Digraph.graph l.digraph).reads l.number) (slice_index l.self.cursors.items l.number) l.place
