-- the first one of the instances so far
use Rattle.vw_net_faults.specs.Steps.SecondClaims.{IsFirstSecond}
use Rattle.vw_net_faults.proofs.nets.Nets.first_second.Given as goal

abbrev pub invariant-loop-instance : goal.invariant-loop-instance
invariant-loop-instance l = IsFirstSecond l.self.design.now l.instance l.first
