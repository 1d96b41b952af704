use Rattle.vw_link.proofs.RuleSteps.{begins}
use Rattle.vw_link.proofs.laying.laid.Goals as goal

pub ruled-requires-clause-rule : goal.ruled-requires-clause-rule
ruled-requires-clause-rule c = begins
