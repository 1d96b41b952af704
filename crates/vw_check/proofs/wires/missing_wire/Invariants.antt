-- the first pair without a wire is the first of the rest
use Rattle.std.proofs.Common.{◌≡◌, drop, is_some}
use Rattle.vw_check.specs.declared.fault.PlanFault.TheVariants.{MissingWire}
use Rattle.vw_net.specs.FirstFound.{first_at, found_unless}
use Rattle.vw_ready.specs.Pairs.{pair_in}
use Rattle.vw_check.specs.Steps.Wires.{first_missing}
use Rattle.vw_check.proofs.wires.missing_wire.Given as goal

abbrev pub invariant-loop-need : goal.invariant-loop-need
invariant-loop-need l = first_at (λ _ need. found_unless (is_some (pair_in l.wires.places need.net need.to)) (MissingWire need.net need.to)) l.need-index (drop l.need-index l.needs) ≡ first_missing l.wires.places l.needs
