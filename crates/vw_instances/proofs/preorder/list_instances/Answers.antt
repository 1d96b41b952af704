use Rattle.std.proofs.Common.{sym, subst}
use Rattle.vw_instances.specs.Tables.{ArePlaced, AreCellSites}
use Rattle.vw_instances.proofs.WalkEnds.{starts, ends_placed, ends_cells}
use Rattle.vw_instances.proofs.preorder.list_instances.Goals as goal

pub loop-frame-init : goal.loop-frame-init
loop-frame-init c = rw (c.in_ok-state.ensures.instances, c.in_ok-state.ensures.cells, c.in_ok-state.ensures.frames) (starts c.args.targets.now.design.now)

-- a walk without frames has listed all
pub returns-clause-instances : goal.returns-clause-instances
returns-clause-instances c =
    subst (ArePlaced c.args.targets.now.design.now) (sym c.of.ensures)
    (ends_placed _ _ _ _ c.loop-frame.invariant _ _ c.in_default.ensures.items c.in_default.ensures.cases.0 c.in_default.ensures.rest)

pub returns-clause-cells : goal.returns-clause-cells
returns-clause-cells c =
    subst (AreCellSites c.args.targets.now.design.now) (sym c.of-2.ensures)
    (ends_cells _ _ _ _ c.loop-frame.invariant _ _ c.in_default.ensures.items c.in_default.ensures.cases.0 c.in_default.ensures.rest)
