use Rattle.vw_instances.specs.Steps.Frames.{IsPartlyListed, steps_left}
use Rattle.vw_instances.proofs.preorder.list_instances.Given as goal

-- the tables have what was listed, and the frames have the rest
abbrev pub invariant-loop-frame : goal.invariant-loop-frame
invariant-loop-frame l = IsPartlyListed l.targets.design.now l.state.instances.items l.state.cells.items l.state.frames.items

-- each step lists an item or leaves a frame out
abbrev pub decreases-loop-frame : goal.decreases-loop-frame
decreases-loop-frame l = steps_left l.targets.design.now l.state.instances.items l.state.cells.items l.state.frames.items
