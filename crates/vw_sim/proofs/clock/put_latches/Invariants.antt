-- the nets of the latches so far have their bits, and the other nets what they had
use Rattle.vw_sim.proofs.Latches.{ArePut}
use Rattle.vw_sim.proofs.clock.put_latches.Given as goal

abbrev pub invariant-loop-number : goal.invariant-loop-number
invariant-loop-number l = ArePut l.first l.cell-items l.state l.initial.values l.values l.number l.latch
