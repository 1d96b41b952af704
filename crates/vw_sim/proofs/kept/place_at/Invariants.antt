-- the place of the values from here on
use Rattle.std.proofs.Common.{◌≡◌, drop}
use Rattle.vw_net.specs.TruthTable.{place_of}
use Rattle.vw_sim.specs.Steps.Values.{bits_at}
use Rattle.vw_sim.proofs.kept.place_at.Given as goal

abbrev pub invariant-loop-i : goal.invariant-loop-i
invariant-loop-i l = l.place ≡ place_of (bits_at l.all (drop l.i l.nets))
