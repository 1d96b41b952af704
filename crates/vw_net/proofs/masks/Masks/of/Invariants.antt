-- the masks of the marks from here on
use Rattle.std.proofs.Common.{◌≡◌, drop, map}
use Rattle.vw_net.specs.TruthTable.{place_of}
use Rattle.vw_net.specs.Steps.Masks.{is_looked, is_wanted}
use Rattle.vw_net.proofs.masks.Masks.of.Given as goal

abbrev pub invariant-loop-i : goal.invariant-loop-i
invariant-loop-i l = (l.looked ≡ place_of (map is_looked (drop l.i l.marks))) × (l.wanted ≡ place_of (map is_wanted (drop l.i l.marks)))
