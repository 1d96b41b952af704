-- what is left of the hops, behind those that have their pins
use Rattle.std.proofs.Common.{List}
use Rattle.vw_check.specs.HopFaults.{PlacedHop}
use Rattle.vw_check.specs.Steps.Tables.{HasFirstHops}
use Rattle.vw_check.proofs.Clashes.{IsRestOfHops}
use Rattle.vw_check.proofs.clash.clash_in.Given as goal

abbrev pub invariant-loop-place : goal.invariant-loop-place
invariant-loop-place l = (placed : List PlacedHop) → HasFirstHops placed l.fn.pins.users → IsRestOfHops placed l.number l.place l.wire.hops l.pins.users
