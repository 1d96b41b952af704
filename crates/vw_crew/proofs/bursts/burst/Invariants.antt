use Rattle.vw_crew.specs.Groups.{AllAtWork, AllStay}
use Rattle.vw_crew.proofs.bursts.burst.Given as goal

-- the groups have gone on so far
abbrev pub invariant-loop : goal.invariant-loop
invariant-loop g l = record {
  work : AllAtWork l.groups;
  stay : AllStay l.fn.groups l.groups;
}
