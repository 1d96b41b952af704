-- what is left of the wires, behind the hops that have their pins
use Rattle.vw_check.proofs.Clashes.{AreLeft}
use Rattle.vw_check.proofs.clash.pin_clash.Given as goal

abbrev pub invariant-loop-number : goal.invariant-loop-number
invariant-loop-number l = AreLeft l.number l.plan.wires l.pins.users
