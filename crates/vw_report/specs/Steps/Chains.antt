-- Chains over nets, wires and cells that are there.
use Rattle.std.specs.Prelude.{◌<◌, ◌+◌, ℕ, length}
use Rattle.vw_plan.specs.PlannedBoard.{PlannedBoard}
use Rattle.vw_chain.specs.declared.chain.End.{End}
use Rattle.vw_chain.specs.declared.chain.End.TheVariants as end
use Rattle.vw_chain.specs.declared.chain.Step.{Step}
use Rattle.vw_chain.specs.declared.chain.Step.TheVariants as step

-- a net of the netlist
abbrev pub IsNetOf : PlannedBoard → ℕ → Type 0
IsNetOf planned net = net < planned.ordered.flat.inputs + length planned.ordered.flat.cells

-- a step over such a net, or over a wire of the plan
abbrev pub IsStepOf : PlannedBoard → Step → Type 0
IsStepOf planned (step.Gate net) = IsNetOf planned net
IsStepOf planned (step.Wire number) = number < length planned.plan.wires

-- an end with a latch of the netlist
abbrev pub IsEndOf : PlannedBoard → End → Type 0
IsEndOf planned (end.Wire number) = Unit {0}
IsEndOf planned (end.Latch number reads) = number < length planned.ordered.flat.cells
