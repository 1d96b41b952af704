-- the names of the models so far
use Rattle.vw_models.specs.Steps.Names.{AreNumbers}
use Rattle.vw_models.proofs.numbers.Numbers.of.Given as goal

abbrev pub invariant-loop-number : goal.invariant-loop-number
invariant-loop-number l = AreNumbers l.design.models l.number l.names
