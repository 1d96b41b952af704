use Rattle.vw_crew.specs.Groups.{AreAtWork, Stays}
use Rattle.vw_crew.proofs.group.Group.turn.Given as goal

-- the group has gone on so far
abbrev pub invariant-loop-place : goal.invariant-loop-place
invariant-loop-place g l = record {
  work : AreAtWork l.self;
  stays : Stays l.fn.self l.self;
}
