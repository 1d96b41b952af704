-- the models so far have their names
use Rattle.std.proofs.Common.{◌≡◌, length}
use Rattle.vw_drivers.proofs.AllNames.{AreNamesBelow}
use Rattle.vw_drivers.proofs.gather_names.names_of.Given as goal

abbrev pub invariant-loop-number : goal.invariant-loop-number
invariant-loop-number l = record {
  length_is : length l.names.items ≡ l.number;
  names : AreNamesBelow l.targets.design.now l.claims l.number l.names.items;
}
