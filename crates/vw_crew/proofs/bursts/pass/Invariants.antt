use Rattle.vw_crew.specs.Groups.{AllAtWork, AllStay}
use Rattle.vw_crew.proofs.bursts.pass.Given as goal

-- the groups have gone on so far
abbrev pub invariant-loop-number : goal.invariant-loop-number
invariant-loop-number g l = record {
  work : AllAtWork l.groups;
  stay : AllStay l.fn.groups l.groups;
}
