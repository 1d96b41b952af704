use Rattle.vw_top.proofs.save.write_states.Goals as goal

pub returns-in-Some-clause-streams : goal.returns-in-Some-clause-streams
returns-in-Some-clause-streams g c = rw c.in-Some.is c.save_every.ensures.streams

pub returns-in-None-clause-streams : goal.returns-in-None-clause-streams
returns-in-None-clause-streams g c = rw c.in-None.is c.save.ensures.streams
