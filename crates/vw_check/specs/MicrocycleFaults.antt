-- Nets that aren't usable when they have to be.
use Rattle.std.specs.Prelude.{ℕ, ◌+◌, slice_get, Option, None, nat_le}
use Rattle.std.specs.Option.{option_and_then}
use Rattle.vw_net.specs.declared.cell.Cell.{Cell}
use Rattle.vw_net.specs.declared.cell.Cell.TheVariants.{Gate, Latch}
use Rattle.vw_plan.specs.declared.wire.Wire.{Wire}
use Rattle.vw_plan.specs.PlannedBoard.{PlannedBoard, home}
use Rattle.vw_plan.specs.Lead.{usable}
use Rattle.vw_check.specs.declared.fault.PlanFault.{PlanFault}
use Rattle.vw_check.specs.declared.fault.PlanFault.TheVariants.{TooEarly, LateLatch}
use Rattle.vw_net.specs.FirstFound.{first_at, found_unless}

-- the microcycle from which on a net is usable at its own node
abbrev pub usable_at_home : PlannedBoard → ℕ → ℕ
usable_at_home planned net = usable planned (home planned net) net

-- the first hop of a wire is before its net is usable
abbrev pub early_wire : PlannedBoard → ℕ → Wire → Option PlanFault
early_wire planned number wire =
    option_and_then (λ hop. found_unless (nat_le (usable_at_home planned wire.net) hop.at) (TooEarly number hop.at (usable_at_home planned wire.net))) (slice_get wire.hops 0)

abbrev pub too_early : PlannedBoard → Option PlanFault
too_early planned = first_at (early_wire planned) 0 planned.plan.wires

-- the microcycle from which on what a latch reads is usable on the latch's chip
abbrev pub latch_microcycle : PlannedBoard → ℕ → ℕ → ℕ
latch_microcycle planned number d = usable planned (home planned (planned.ordered.flat.inputs + number)) d

-- a latch whose input is usable only after the period
abbrev pub late_cell : PlannedBoard → ℕ → Cell → Option PlanFault
late_cell planned number (Gate ins cover) = None
late_cell planned number (Latch d init) = found_unless (nat_le (latch_microcycle planned number d) planned.plan.period) (LateLatch number (latch_microcycle planned number d))

abbrev pub late_latch : PlannedBoard → Option PlanFault
late_latch planned = first_at (late_cell planned) 0 planned.ordered.flat.cells
