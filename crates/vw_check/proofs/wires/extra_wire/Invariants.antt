-- the first extra wire is the first of the rest
use Rattle.std.proofs.Common.{◌≡◌, drop}
use Rattle.vw_check.specs.declared.fault.PlanFault.TheVariants.{ExtraWire}
use Rattle.vw_net.specs.FirstFound.{first_at, found_if}
use Rattle.vw_check.specs.Steps.Wires.{first_extra, is_extra}
use Rattle.vw_check.proofs.wires.extra_wire.Given as goal

abbrev pub invariant-loop-number : goal.invariant-loop-number
invariant-loop-number l = first_at (λ number wire. found_if (is_extra l.needs.places l.wires.places number wire) (ExtraWire number)) l.number (drop l.number l.plan.wires) ≡ first_extra l.needs.places l.wires.places l.plan.wires
