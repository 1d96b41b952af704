use Rattle.std.proofs.Common.{rules}
use Rattle.vw_link.proofs.RuleSteps.{full, puts}
use Rattle.vw_link.proofs.sender.SenderPutEnd.put.Goals as goal

pub push_as-requires-clause-rule : goal.push_as-requires-clause-rule
push_as-requires-clause-rule g c = (puts _ _ _ _ c.self.invariant.1 (search rules), full _ _ c.self.invariant.1)
