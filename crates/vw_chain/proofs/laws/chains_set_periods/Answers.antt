use Rattle.vw_chain.proofs.OtherPeriods.{last_needed, still_sound}
use Rattle.vw_chain.proofs.laws.chains_set_periods.Goals as goal

pub returns-clause-enough : goal.returns-clause-enough
returns-clause-enough c = λ planned found other sound is chips wires some late. still_sound planned other chips wires sound found.last is.due some late

pub returns-clause-needed : goal.returns-clause-needed
returns-clause-needed c = λ planned found other is chips wires sound. last_needed planned other chips wires sound found is
